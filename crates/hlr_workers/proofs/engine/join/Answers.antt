use Rattle.hlr_workers.proofs.EngineLemmas.{brought_itself, brought_some, home_outs}
use Rattle.hlr_workers.proofs.engine.join.Goals as goal

pub returns-in-Some-clause-brought : goal.returns-in-Some-clause-brought
returns-in-Some-clause-brought g c = rw c.keep.ensures (brought_some c.args.workers.now c.args.replies.now c.requires.kept c.rules.ensures.ruled c.args.part _ _ c.put_answers.new.replies c.in-Some.ensures.home c.put_answers.ensures.items c.put_answers.ensures.capacity)

pub returns-in-Some-clause-home : goal.returns-in-Some-clause-home
returns-in-Some-clause-home g c = rw c.keep.ensures (home_outs c.args.workers.now c.args.replies.now.items c.requires.kept c.rules.ensures.ruled c.args.part _ _ c.in-Some.ensures.home)

pub returns-in_default-clause-brought : goal.returns-in_default-clause-brought
returns-in_default-clause-brought g c =
    let again = rw c.in_default.is at c.bring_home.ensures.home in
    rw again.0 (brought_itself c.args.workers.now c.args.replies.now c.requires.kept)
