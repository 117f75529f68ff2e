use Rattle.hlr.proofs.Common.{[], flat_map, number_line, outgoing}
use Rattle.hlr.proofs.SinkFacts.{adds_both, adds_failed, adds_front_wider, adds_grown}
use Rattle.hlr.proofs.reports.write_page.Goals as goal

pub returns-in_err-make_room : goal.returns-in_err-make_room
returns-in_err-make_room g c =
    let text = c.in_err-make_room.ensures.text in
    adds_failed _ _ _ _ _ c.from_residual.result c.from_residual.ensures.1
    (adds_front_wider [] (flat_map number_line c.args.page.now.items) (outgoing c.args.line.now.items (g.S.Sink.taken c.args.sink.now)) (outgoing [] (g.S.Sink.taken c.make_room.new.sink)) text.0) text.1

pub returns : goal.returns
returns g c = adds_both _ _ _ _ _ c.in_ok-make_room.ensures.text (adds_grown _ _ _ _ c.build_page.ensures)
