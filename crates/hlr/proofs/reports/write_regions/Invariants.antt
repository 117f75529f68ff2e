use Rattle.hlr.proofs.Common.{drop, region_line, outgoing}
use Rattle.hlr.proofs.ReportFacts.{ReportTo}
use Rattle.hlr.proofs.reports.write_regions.Given as goal

abbrev pub invariant-loop-region : goal.invariant-loop-region
invariant-loop-region g l =
    ReportTo region_line l.regions (drop l.region-index l.regions) (outgoing l.fn.line.items (g.S.Sink.taken l.fn.sink)) (outgoing l.line.items (g.S.Sink.taken l.sink))
