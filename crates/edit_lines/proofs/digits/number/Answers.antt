use Rattle.edit_lines.proofs.Common.{arith}
use Rattle.edit_lines.proofs.DigitLemmas.{number_none, number_more, number_room}
use Rattle.edit_lines.proofs.digits.number.Goals as goal

pub loop-i-init : goal.loop-i-init
loop-i-init c = number_none c.args.digits.now

pub overflow_mul-number : goal.overflow_mul-number
overflow_mul-number c = let room = number_room _ _ _ c.loop-i-test.true c.loop-i.auto.i c.requires c.loop-i.invariant in omega arith

pub overflow_add-number : goal.overflow_add-number
overflow_add-number c = let room = number_room _ _ _ c.loop-i-test.true c.loop-i.auto.i c.requires c.loop-i.invariant in omega (arith, c.from.ensures)

pub loop-i-preserved : goal.loop-i-preserved
loop-i-preserved c = number_more _ _ _ _ c.loop-i-test.true c.loop-i.auto.i c.loop-i.invariant c.from.ensures
