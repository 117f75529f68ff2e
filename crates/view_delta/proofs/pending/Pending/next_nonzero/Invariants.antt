use Rattle.view_delta.proofs.Common.{AreZero}
use Rattle.view_delta.proofs.pending.Pending.next_nonzero.Given as goal

abbrev pub invariant-loop-cell : goal.invariant-loop-cell
invariant-loop-cell l = AreZero l.from l.cell l.self
