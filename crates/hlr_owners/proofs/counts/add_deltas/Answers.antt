use Rattle.hlr_owners.proofs.Common.{arith, ◌∙◌, ap, ℤ, ◌+ℤ◌, ints, delta_at, plain_sum, one_moved}
use Rattle.hlr_owners.proofs.counts.add_deltas.Goals as goal

pub loop-cell-preserved : goal.loop-cell-preserved
loop-cell-preserved g c =
    let ahead = c.loop-cell.invariant.ahead c.loop-cell.cell (omega arith) in
    let sum = c.requires.sums c.loop-cell.cell (omega arith) in
    let pending = c.requires.pending c.loop-cell.cell (omega arith) in
    let made = plain_sum (delta_at c.loop-cell.sums c.loop-cell.cell) (delta_at (g.O.RangeOwner.deltas_of c.args.state.now) c.loop-cell.cell) (omega (arith, ints)) (omega (arith, ints)) (omega (arith, ints)) in
    one_moved _ _ _ c.loop-cell.cell _ _ (omega arith) c.from.ensures
    (rw (c.from.ensures, c.delta.ensures) (made ∙ ap (λ (z : ℤ). z +ℤ delta_at (g.O.RangeOwner.deltas_of c.args.state.now) c.loop-cell.cell) ahead)) c.loop-cell.invariant
