use Rattle.tatp_actions.proofs.Common.{append-nil, hour_notes, span_amount, FIRST_AREA}
use Rattle.tatp_actions.proofs.HourLemmas.{hours_are}
use Rattle.tatp_actions.proofs.change.Change.hours_moved.Goals as goal

pub returns : goal.returns
returns c =
    let amount = span_amount c.args.up c.args.spans.now in
    rw (c.of_hours.ensures, c.zone_note.ensures, append-nil (hour_notes amount FIRST_AREA 0)) (hours_are amount FIRST_AREA)
