use Rattle.hlr.proofs.Common.{[], refl, drop_all, drop_more, outgoing}
use Rattle.hlr.proofs.SinkFacts.{adds_failed}
use Rattle.hlr.proofs.ReportFacts.{report_ends, report_goes_on, report_stops_by}
use Rattle.hlr.proofs.reports.write_regions.Goals as goal

pub returns-in_err-make_room : goal.returns-in_err-make_room
returns-in_err-make_room g c =
    let text = c.in_err-make_room.ensures.text in
    rw (← c.list-regions.ensures.value) (adds_failed _ _ _ _ _ c.from_residual.result c.from_residual.ensures.1 (report_stops_by _ _ _ _ _ [] _ _ (outgoing [] (g.S.Sink.taken c.make_room.new.sink)) c.loop-region.invariant refl text.0) text.1)

pub loop-region-preserved : goal.loop-region-preserved
loop-region-preserved g c =
    let next = drop_more c.list-regions.result.now c.loop-region.region-index _ c.loop-region-test.true in
    report_goes_on _ _ _ _ _ _ _ _ _ _ c.loop-region.invariant next c.in_ok-make_room.ensures.text c.build_region.ensures

pub returns-in_err-make_room-2 : goal.returns-in_err-make_room-2
returns-in_err-make_room-2 g c =
    let text = c.in_err-make_room-2.ensures.text in
    rw (← c.list-regions.ensures.value) (adds_failed _ _ _ _ _ c.from_residual-in_err-make_room-2.result c.from_residual-in_err-make_room-2.ensures.1 (report_stops_by _ _ _ _ _ [] _ _ (outgoing [] (g.S.Sink.taken c.make_room-2.new.sink)) c.loop-region.invariant refl text.0) text.1)

pub returns : goal.returns
returns g c =
    let none = drop_all c.loop-region.region-index c.list-regions.result.now c.loop-region-test.false in
    rw (← c.list-regions.ensures.value) (report_ends _ _ _ _ _ _ _ _ _ _ c.loop-region.invariant none refl c.in_ok-make_room-2.ensures.text c.build_total.ensures)
