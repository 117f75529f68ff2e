use Rattle.hlr.proofs.ReportFacts.{report_built}
use Rattle.hlr.proofs.reports.build_counts.Goals as goal

pub returns : goal.returns
returns c = report_built _ _ _ _ _ _ _ c.build_cells-lines.ensures.lines c.build_cells-lines.ensures.count (rw c.total_word.ensures.word at c.build_total.ensures)
