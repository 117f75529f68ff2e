use Rattle.hlr.proofs.Common.{slice_index, is_counted, rows_line}
use Rattle.hlr.proofs.ReportFacts.{AreBuilt}
use Rattle.hlr.proofs.reports.build_counted.Given as goal

abbrev pub invariant-loop-cell : goal.invariant-loop-cell
invariant-loop-cell l = AreBuilt (rows_line (slice_index l.fn.cells)) (is_counted (slice_index l.fn.cells)) l.fn.line.items l.cell l.line.items l.lines
