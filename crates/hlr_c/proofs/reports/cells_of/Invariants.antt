use Rattle.hlr_c.proofs.Common.{pos, net_of, first_view, IsFilledTo, nearest}
use Rattle.hlr_c.proofs.reports.cells_of.Given as goal

abbrev pub invariant-loop-cell : goal.invariant-loop-cell
invariant-loop-cell l = IsFilledTo (pos 0) (λ c. nearest (net_of (first_view l.sight.words) c)) l.initial.published l.published l.cell
