use Rattle.hlr_c.proofs.JournaledLemmas.{change_journaled, change_written}
use Rattle.hlr_c.proofs.journaled.change_and_write.Goals as goal

pub returns-in-Some-clause-journaled : goal.returns-in-Some-clause-journaled
returns-in-Some-clause-journaled c =
    change_journaled c.args.event c.args.lender.now c.ask.new.self c.in-Some.reply c.args.journal.now c.put.new.self c.in-Some.ensures.step c.put.ensures.put c.put.ensures.stands c.requires.journaled

pub returns-in-Some-clause-written : goal.returns-in-Some-clause-written
returns-in-Some-clause-written c =
    change_written c.args.event c.args.lender.now c.ask.new.self c.in-Some.reply c.args.journal.now c.put.new.self c.code_of_reply.result
    c.requires.change c.in-Some.ensures.step c.put.ensures.put c.code_of_reply.ensures
