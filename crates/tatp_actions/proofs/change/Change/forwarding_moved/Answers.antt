use Rattle.tatp_actions.proofs.Common.{◌∙◌, ap, arith, refl, w8, ints, to_z-of_z, Note}
use Rattle.tatp_actions.proofs.HourLemmas.{with_zone}
use Rattle.tatp_actions.proofs.change.Change.forwarding_moved.Goals as goal

pub returns : goal.returns
returns c =
    let low = c.signed.ensures.low in
    let high = c.signed.ensures.high in
    let cell = ap (λ (note : Note). note.cell) c.zone_note.ensures in
    let by = ap (λ (note : Note). note.amount) c.zone_note.ensures ∙ to_z-of_z w8 c.signed.result (omega (arith, ints)) ∙ c.signed.ensures.value in
    with_zone c.args.up c.args.active c.args.row.now c.args.zone c.row_spans.result c.of_hours.result c.zone_note.result.amount c.row_spans.ensures.covering (c.of_hours.ensures ∙ rw cell refl) by
