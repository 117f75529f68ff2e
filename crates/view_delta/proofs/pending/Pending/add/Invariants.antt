use Rattle.view_delta.proofs.Common.{get_or, pos}
use Rattle.view_delta.proofs.SumLemmas.{AreMovedTo}
use Rattle.view_delta.proofs.pending.Pending.add.Given as goal

abbrev pub invariant-loop-cell : goal.invariant-loop-cell
invariant-loop-cell l = AreMovedTo (λ c. pos (get_or l.counts c 0)) l.initial.self-inside.deltas l.self-inside.deltas l.cell
