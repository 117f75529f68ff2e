use Rattle.hlr.proofs.Common.{length, IsPage, ArePairs, number_line, outgoing}
use Rattle.hlr.proofs.ReportFacts.{ReportTo, pairs_from}
use Rattle.hlr.proofs.reports.write_index.Given as goal

abbrev pub invariant-loop-page : goal.invariant-loop-page
invariant-loop-page g l =
    ReportTo number_line l.index (pairs_from l.from l.index) (outgoing l.fn.line.items (g.S.Sink.taken l.fn.sink)) (outgoing l.line.items (g.S.Sink.taken l.sink))
    × IsPage l.from l.index l.page.items × ArePairs l.index

abbrev pub decreases-loop-page : goal.decreases-loop-page
decreases-loop-page g l = length (pairs_from l.from l.index)
