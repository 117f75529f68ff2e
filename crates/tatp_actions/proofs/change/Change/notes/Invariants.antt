use Rattle.tatp_actions.proofs.Common.{◌≡◌, ◌≤◌, ◌-◌, ◌++◌, length, hour_notes, span_amount, FIRST_AREA}
use Rattle.tatp_actions.proofs.change.Change.notes.Given as goal

abbrev pub invariant-loop-hour : goal.invariant-loop-hour
invariant-loop-hour l = (l.hour ≤ FIRST_AREA) × (length l.notes.items ≤ l.hour)
    × (l.notes.items ++ hour_notes (span_amount l.self-inside.up l.self-inside.hours) (FIRST_AREA - l.hour) l.hour ≡ hour_notes (span_amount l.self-inside.up l.self-inside.hours) FIRST_AREA 0)
