use Rattle.hlr_owners.proofs.Common.{delta_at, AreMovedTo}
use Rattle.hlr_owners.proofs.counts.add_deltas.Given as goal

abbrev pub invariant-loop-cell : goal.invariant-loop-cell
invariant-loop-cell g l = AreMovedTo (λ c. delta_at (g.O.RangeOwner.deltas_of l.state) c) l.initial.sums l.sums l.cell
