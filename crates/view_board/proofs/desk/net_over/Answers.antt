use Rattle.view_board.proofs.Common.{◌≡◌, arith, to_z, of_z, ◌+ℤ◌, w128, ints, to_z-of_z}
use Rattle.view_board.proofs.NetLemmas.{net_from-next, net_from-end}
use Rattle.view_board.proofs.desk.net_over.Goals as goal

pub loop-slot-preserved : goal.loop-slot-preserved
loop-slot-preserved c =
    let slot = c.loop-slot.slot in
    let next = net_from-next c.args.owned.now slot slot c.args.numbers.now c.args.cell (omega (arith, c.told-owned, c.loop-slot-test.true)) in
    let before = c.loop-slot.invariant in
    let own = c.own_net-sum.ensures in
    let low = own.low in
    let high = own.high in
    let added = own.value in
    let first = to_z-of_z w128 c.own_net-sum.result (omega (arith, ints)) in
    let sum : to_z w128 (of_z w128 (to_z w128 c.loop-slot.sum-bits +ℤ to_z w128 (of_z w128 c.own_net-sum.result))) ≡ to_z w128 c.loop-slot.sum-bits +ℤ c.own_net-sum.result = rw first (to_z-of_z w128 _ (omega (arith, ints, before.low, before.high))) in
    record {
      sum = rw sum (omega (arith, ints, before.sum, next, added));
      low = rw sum (omega (arith, ints, before.low));
      high = rw sum (omega (arith, ints, before.high));
    }

pub returns-clause-value : goal.returns-clause-value
returns-clause-value c =
    let last = net_from-end c.args.owned.now c.loop-slot.slot c.loop-slot.slot c.args.numbers.now c.args.cell (omega (arith, c.told-owned, c.loop-slot-test.false)) in
    omega (arith, ints, c.loop-slot.invariant.sum, last)
