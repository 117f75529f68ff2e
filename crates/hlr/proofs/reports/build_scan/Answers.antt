use Rattle.hlr.proofs.ReportFacts.{scan_same}
use Rattle.hlr.proofs.reports.build_scan.Goals as goal

pub returns : goal.returns
returns c = rw (← scan_same _ _ c.recount.ensures) c.build_counts.ensures
