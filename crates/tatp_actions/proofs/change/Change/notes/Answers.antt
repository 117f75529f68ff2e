use Rattle.tatp_actions.proofs.Common.{◌≡◌, ◌∙◌, ◌-◌, ◌++◌, ℕ, List, [], ap, arith, sym, w8, of_z, to_z, append-nil, ℤ, ints, to_z-of_z, append_assoc, hour_notes, note_of, span_amount, signed, IsCellNote, Note, FIRST_AREA}
use Rattle.tatp_actions.proofs.HourLemmas.{compact_each, compact_few, compact_once, hour_noted, last_fits, no_hour}
use Rattle.tatp_actions.proofs.change.Change.notes.Goals.{After-push_note-2}
use Rattle.tatp_actions.proofs.change.Change.notes.Goals as goal

pub loop-hour-preserved : goal.loop-hour-preserved
loop-hour-preserved c =
    let low = c.signed.ensures.low in
    let high = c.signed.ensures.high in
    let inside = c.self.inside in
    let amount = to_z-of_z w8 c.signed.result (omega (arith, ints)) in
    let by = amount ∙ c.signed.ensures.value ∙ ap (signed inside.up) c.covering.ensures.value in
    hour_noted (span_amount inside.up inside.hours) c.loop-hour.hour _ c.loop-hour.notes.items c.push_note.new.notes.items _ c.loop-hour-test.true by c.loop-hour.invariant.2 c.loop-hour.invariant.1 c.push_note.ensures

-- all hours are noted
hours : (c : After-push_note-2) → c.loop-hour.notes.items ++ [] ≡ hour_notes (span_amount c.self.inside.up c.self.inside.hours) FIRST_AREA 0
hours c =
    let none = no_hour (span_amount c.self.inside.up c.self.inside.hours) (FIRST_AREA - c.loop-hour.hour) c.loop-hour.hour (omega (arith, c.loop-hour-test.false)) in
    ap (λ (rest : List (ℕ × ℤ)). c.loop-hour.notes.items ++ rest) (sym none) ∙ c.loop-hour.invariant.2

-- an amount, as it is read from a byte
read : (note : Note) → IsCellNote note → to_z w8 (of_z w8 note.amount) ≡ note.amount
read note cell = to_z-of_z w8 note.amount (omega (arith, ints, cell.least, cell.most))

first_noted : (c : After-push_note-2) → c.push_note-2.new.notes.items ≡ c.loop-hour.notes.items ++ note_of c.self.inside.first.cell c.self.inside.first.amount
first_noted c = c.push_note-2.ensures ∙ ap (λ (amount : ℤ). c.loop-hour.notes.items ++ note_of c.self.inside.first.cell amount) (read c.self.inside.first c.self.invariant.first)

pub push_note-requires-3 : goal.push_note-requires-3
push_note-requires-3 c = λ moves.
    let here = (goal.at.push_note-requires-3 c).After-push_note-2 in
    last_fits c.self.inside c.self.invariant c.loop-hour.notes.items c.push_note-2.new.notes.items (hours here) (omega (arith, c.loop-hour.invariant.0, c.loop-hour.invariant.1)) (first_noted here)

pub returns-clause-value : goal.returns-clause-value
returns-clause-value c =
    let here = (goal.at.returns-clause-value c).After-push_note-2 in
    let inside = c.self.inside in
    let first = note_of inside.first.cell inside.first.amount in
    let second = note_of inside.second.cell inside.second.amount in
    let items = sym (append-nil c.loop-hour.notes.items) ∙ hours here in
    c.push_note-3.ensures ∙ rw (read inside.second c.self.invariant.second, first_noted here, items) (append_assoc (hour_notes (span_amount inside.up inside.hours) FIRST_AREA 0) first second) ∙ c.self.view_is

pub returns-clause-few : goal.returns-clause-few
returns-clause-few c = rw (← c.self.view_is) (compact_few c.self.inside c.self.invariant)

pub returns-clause-small : goal.returns-clause-small
returns-clause-small c = rw (← c.self.view_is) (compact_each c.self.inside c.self.invariant)

pub returns-clause-once : goal.returns-clause-once
returns-clause-once c = rw (← c.self.view_is) (compact_once c.self.inside c.self.invariant)
