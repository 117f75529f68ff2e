use Rattle.tatp_actions.proofs.Common.{◌≡◌, ◌-◌, arith, length}
use Rattle.std.proofs.Common.{min}
use Rattle.tatp_actions.proofs.ListedLemmas.{page_ends, page_more, page_starts}
use Rattle.tatp_actions.proofs.listed.write_page.Goals.{then-page-room, else-page-room}
use Rattle.tatp_actions.proofs.listed.write_page.Goals as goal

pub loop-at-init : goal.loop-at-init
loop-at-init g c = page_starts (λ pair. g.T.FromRow.of_row pair.1) c.args.page.now c.args.place c.args.rows.now

pub loop-at-preserved : goal.loop-at-preserved
loop-at-preserved g c =
    let fits : c.if-page-room.count ≡ min (length c.args.page.now) (length c.args.rows.now - c.args.place) = elim c.if-page-room.branch [ then-page-room w ↦ omega arith | else-page-room w ↦ omega arith ] in
    rw c.loop-at.invariant
    (page_more (λ pair. g.T.FromRow.of_row pair.1) c.args.page.now c.args.place c.args.rows.now c.loop-at.at c.index-page-at.result c.from_row.result (omega arith) (omega arith) c.index-page-at.is
    (rw (← c.index-page-at.is) at c.from_row.ensures))

pub returns : goal.returns
returns g c =
    let fits : c.if-page-room.count ≡ min (length c.args.page.now) (length c.args.rows.now - c.args.place) = elim c.if-page-room.branch [ then-page-room w ↦ omega arith | else-page-room w ↦ omega arith ] in
    let end : c.loop-at.at ≡ c.if-page-room.count = omega (arith, c.loop-at.auto.at-end, c.loop-at-test.false) in
    rw (← end) (page_ends (λ pair. g.T.FromRow.of_row pair.1) c.args.page.now c.args.place c.args.rows.now c.loop-at.at c.loop-at.rows c.requires (rw end fits) c.loop-at.invariant)
