use Rattle.edit_lines.proofs.Common.{arith, refl}
use Rattle.edit_lines.proofs.DigitLemmas.{pack_none, pack_more, pack_room}
use Rattle.edit_lines.proofs.digits.pack.Goals as goal

pub loop-i-init : goal.loop-i-init
loop-i-init c = pack_none c.args.base c.args.list.now

pub overflow_mul-value : goal.overflow_mul-value
overflow_mul-value c =
    let room = pack_room _ _ _ _ _ c.loop-i-test.true c.loop-i.auto.i c.loop-i.invariant refl c.requires.list c.requires.base.0 c.requires.room in
    omega arith

pub overflow_add-value : goal.overflow_add-value
overflow_add-value c =
    let room = pack_room _ _ _ _ _ c.loop-i-test.true c.loop-i.auto.i c.loop-i.invariant c.from.ensures c.requires.list c.requires.base.0 c.requires.room in
    omega arith

pub loop-i-preserved : goal.loop-i-preserved
loop-i-preserved c = pack_more _ _ _ _ _ c.loop-i-test.true c.loop-i.auto.i c.loop-i.invariant c.from.ensures
