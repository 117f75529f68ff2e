use Rattle.hlr.proofs.ReportFacts.{views_same}
use Rattle.hlr.proofs.reports.build_views.Goals as goal

pub returns : goal.returns
returns c = rw (← views_same _ _ _ _ c.published.ensures c.unposted.ensures.difference) c.build_counts.ensures
