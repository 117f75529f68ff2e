use Rattle.hlr.proofs.SinkFacts.{adds_grown}
use Rattle.hlr.proofs.run.write_report.Goals as goal

pub returns-in-Views : goal.returns-in-Views
returns-in-Views g c = rw c.in-Views.is (adds_grown _ _ _ _ c.build_views.ensures)

pub returns-in-Scan : goal.returns-in-Scan
returns-in-Scan g c = rw c.in-Scan.is (adds_grown _ _ _ _ c.build_scan.ensures)

pub returns-in-Propose : goal.returns-in-Propose
returns-in-Propose g c = rw c.in-Propose.is (adds_grown _ _ _ _ c.build_proposal.ensures)
