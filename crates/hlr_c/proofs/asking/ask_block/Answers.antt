use Rattle.hlr_c.proofs.Common.{refl}
use Rattle.hlr_c.proofs.ManyLemmas.{told_answers, told_length}
use Rattle.hlr_c.proofs.asking.ask_block.Goals as goal

pub write_block-requires-clause-found : goal.write_block-requires-clause-found
write_block-requires-clause-found g c =
    told_length g.Q.Question.is_read g.Q.Telling.told c.args.of.now c.args.asked.now c.args.from c.args.to c.as_slice.result.now (rw (c.as_slice.ensures.value) (c.if-not-copy_block.ensures refl)) c.requires.block

pub returns-clause-done : goal.returns-clause-done
returns-clause-done g c = λ done.
    told_answers g.Q.Question.is_read g.Q.Telling.told c.args.of.now c.args.asked.now c.args.from c.args.to c.as_slice.result.now (rw (c.as_slice.ensures.value) (c.if-not-copy_block.ensures refl)) c.requires.block
    (c.args.rows.now, c.args.codes.now) (c.write_block.new.rows, c.write_block.new.codes) c.write_block.ensures
