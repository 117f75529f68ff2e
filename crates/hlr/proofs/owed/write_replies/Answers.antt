use Rattle.hlr.proofs.Common.{[], refl, drop_all, outgoing}
use Rattle.hlr.proofs.SinkFacts.{adds_failed, adds_on}
use Rattle.hlr.proofs.ReportFacts.{drop_item, lines_stop_by, report_goes_on, report_whole}
use Rattle.hlr.proofs.owed.write_replies.Goals as goal

pub returns-in_err-make_room-clause-text : goal.returns-in_err-make_room-clause-text
returns-in_err-make_room-clause-text g c =
    let text = c.in_err-make_room.ensures.text in
    adds_failed _ _ _ _ _ c.from_residual.result c.from_residual.ensures.1 (lines_stop_by _ _ _ _ [] _ _ (outgoing [] (g.S.Sink.taken c.make_room.new.sink)) c.loop-one.invariant refl text.0) text.1

pub loop-one-preserved : goal.loop-one-preserved
loop-one-preserved g c =
    let next = drop_item c.args.replies.now c.loop-one.one-index c.one-item.result c.loop-one-test.true c.one-item.is in
    report_goes_on _ _ _ _ _ _ _ _ _ _ c.loop-one.invariant next c.in_ok-make_room.ensures.text c.build_reply.ensures

pub returns-clause-text : goal.returns-clause-text
returns-clause-text g c =
    let none = drop_all c.loop-one.one-index c.args.replies.now c.loop-one-test.false in
    adds_on _ _ _ _ _ c.make_room-2.result (report_whole _ _ _ _ _ c.loop-one.invariant none) c.make_room-2.ensures.text
