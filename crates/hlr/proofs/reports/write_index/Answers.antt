use Rattle.hlr.proofs.Common.{[], outgoing}
use Rattle.hlr.proofs.SinkFacts.{adds_failed}
use Rattle.hlr.proofs.ReportFacts.{page_none, page_some, page_step, pairs_all, report_ends, report_goes_on_by, report_started, report_stops_by}
use Rattle.hlr.proofs.reports.write_index.Goals as goal

pub loop-page-init : goal.loop-page-init
loop-page-init g c = (report_started _ _ _ _ (pairs_all _), c.page_from.ensures.page, c.page_from.ensures.pairs)

pub returns-in_err-write_page : goal.returns-in_err-write_page
returns-in_err-write_page g c =
    adds_failed _ _ _ _ _ c.from_residual.result c.from_residual.ensures.1 (report_stops_by _ _ _ _ _ _ _ _ (outgoing [] (g.S.Sink.taken c.write_page.new.sink)) c.loop-page.invariant.0 c.loop-page.invariant.1.front c.in_err-write_page.ensures.0) c.in_err-write_page.ensures.1

pub after_last-from-requires : goal.after_last-from-requires
after_last-from-requires g c = rw c.as_slice.ensures.value (page_some c.loop-page.page.items _ c.is_empty.ensures c.loop-page-test.true)

pub loop-page-smaller : goal.loop-page-smaller
loop-page-smaller g c =
    let step = page_step c.loop-page.from c.after_last-from.result c.args.index.now c.loop-page.page.items _ c.loop-page.invariant.2 c.loop-page.invariant.1 c.is_empty.ensures c.loop-page-test.true (rw c.as_slice.ensures.value at c.after_last-from.ensures) in
    step.less

pub loop-page-preserved : goal.loop-page-preserved
loop-page-preserved g c =
    let step = page_step c.loop-page.from c.after_last-from.result c.args.index.now c.loop-page.page.items _ c.loop-page.invariant.2 c.loop-page.invariant.1 c.is_empty.ensures c.loop-page-test.true (rw c.as_slice.ensures.value at c.after_last-from.ensures) in
    (report_goes_on_by _ _ _ _ _ _ _ _ c.loop-page.invariant.0 step.front c.in_ok-write_page.ensures, c.page_from-in-loop-page.ensures.page, c.page_from-in-loop-page.ensures.pairs)

pub returns-in_err-make_room : goal.returns-in_err-make_room
returns-in_err-make_room g c =
    let text = c.in_err-make_room.ensures.text in
    let none = page_none c.loop-page.from c.args.index.now c.loop-page.page.items _ c.loop-page.invariant.1 c.is_empty.ensures c.loop-page-test.false in
    adds_failed _ _ _ _ _ c.from_residual-in_err-make_room.result c.from_residual-in_err-make_room.ensures.1 (report_stops_by _ _ _ _ [] [] _ _ (outgoing [] (g.S.Sink.taken c.make_room.new.sink)) c.loop-page.invariant.0 none text.0) text.1

pub returns : goal.returns
returns g c =
    let none = page_none c.loop-page.from c.args.index.now c.loop-page.page.items _ c.loop-page.invariant.1 c.is_empty.ensures c.loop-page-test.false in
    report_ends _ _ _ _ _ _ _ _ _ _ c.loop-page.invariant.0 none c.len.ensures c.in_ok-make_room.ensures.text c.build_total.ensures
