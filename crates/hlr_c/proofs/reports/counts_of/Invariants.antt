use Rattle.hlr_c.proofs.Common.{slice_index, IsFilledTo}
use Rattle.hlr_c.proofs.reports.counts_of.Given as goal

abbrev pub invariant-loop-cell : goal.invariant-loop-cell
invariant-loop-cell l = IsFilledTo 0 (λ c. slice_index l.cells c) l.initial.counts l.counts l.cell
