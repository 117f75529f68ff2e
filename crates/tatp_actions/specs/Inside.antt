-- What calls inside the crate promise, and what a change is seen as.
use Rattle.std.specs.Prelude.{◌≡◌, ◌≢◌, ◌⊎◌, ℕ, ◌+◌, ◌<◌, ◌≤◌, ◌==◌, ◌&&◌, nat_le, nat_lt, Bool, true, false, List, [], ◌∷◌, ◌++◌, length, map, Option, Some, None, option_map, ℤ, pos, negsuc, neg_ℤ, ◌+ℤ◌, ◌≤ℤ◌, Result, Ok, Err, if◌then◌else◌}
use Rattle.std.specs.List.{AllByRecursion, filter}
use Rattle.std.specs.Option.{option_map_or, unwrap_or}
use Rattle.tatp_rows.specs.Rows.{SubscriberRow, SpecialFacilityRow, CallForwardingRow, subscriber_in_range, facility_in_range}
use Rattle.tatp_rows.specs.declared.refusal.Refusal.{Refusal}
use Rattle.tatp_rows.specs.declared.refusal.Refusal.TheVariants as refusal
use Rattle.row_groups.specs.Groups.{is_in_time}
use Rattle.tatp_actions.specs.Action.{takes_call}
use Rattle.tatp_actions.specs.Book.{Book, subscriber_at, facility_at, put_subscriber, put_facility}
use Rattle.tatp_actions.specs.Cell.{covers}
use Rattle.tatp_actions.specs.Change.{change_at, hour_notes, note_of}
use Rattle.tatp_actions.specs.Heights.{Heights}
use Rattle.tatp_actions.specs.Part.{PartState}
use Rattle.tatp_actions.specs.Tables.{once_more}
use Rattle.tatp_actions.specs.declared.cells.TheConstants.{CELLS, FIRST_AREA, FIRST_ZONE}
use Rattle.tatp_actions.specs.declared.change.Change.TheInside as Change
use Rattle.tatp_actions.specs.declared.change.Note.{Note}
use Rattle.tatp_actions.specs.declared.change.Spans.{Spans}

-- the number of a forwarding that was found, where it takes the call
abbrev pub destination : ℕ → ℕ → ℕ → ℕ → Option CallForwardingRow → Option ℕ
destination s_id sf_type start_time end_time None = None
destination s_id sf_type start_time end_time (Some row) = if takes_call s_id sf_type start_time end_time row then Some row.numberx else None

-- the number of a forwarding that was found at an hour, where it takes a call of these times
abbrev pub number_in_time : ℕ → ℕ → ℕ → Option CallForwardingRow → Option ℕ
number_in_time hour start_time end_time None = None
number_in_time hour start_time end_time (Some row) = if nat_le hour start_time && nat_lt end_time row.end_time then Some row.numberx else None

-- the numbers of the forwardings of a group that was found that start by one hour and end after another
abbrev pub numbers_in : ℕ → ℕ → Option (List CallForwardingRow) → List ℕ
numbers_in start_time end_time None = []
numbers_in start_time end_time (Some group) = map (λ row. row.numberx) (filter (is_in_time start_time end_time) group)

-- the part, asked once more
abbrev pub asked_once : PartState → PartState
asked_once part = record part { asked = once_more part.asked }

-- the part is as before, but for at most this many more questions
abbrev pub IsOnlyAsked : ℕ → PartState → PartState → Type 0
IsOnlyAsked most before after = (after ≡ record before { asked = after.asked }) × (after.asked ≤ before.asked + most)

-- the part with another book, asked once more, and its trees of these heights then
abbrev pub changed_once : PartState → Book → Heights → PartState
changed_once part book heights = record part { book = book; asked = once_more part.asked; heights = heights }

-- the part with another book, asked as often as it was later, and its trees as high as then
abbrev pub changed_to : PartState → Book → PartState → PartState
changed_to part book later = record part { book = book; asked = later.asked; heights = later.heights }

-- a change of a Subscriber row makes one in range of the same subscriber of it
abbrev pub KeepsSubscriber : (SubscriberRow → SubscriberRow) → Type 0
KeepsSubscriber change = (row : SubscriberRow) → subscriber_in_range row ≡ true → ((change row).s_id ≡ row.s_id) × (subscriber_in_range (change row) ≡ true)

-- the book with the row of a subscriber changed, where there is one
abbrev pub subscriber_revised : Book → ℕ → (SubscriberRow → SubscriberRow) → Book
subscriber_revised book s_id change = unwrap_or (option_map (λ row. put_subscriber book s_id (change row)) (subscriber_at book s_id)) book

-- a change of a Special_Facility row makes one in range of the same facility of it
abbrev pub KeepsFacility : (SpecialFacilityRow → SpecialFacilityRow) → Type 0
KeepsFacility change = (row : SpecialFacilityRow) → facility_in_range row ≡ true → ((change row).s_id ≡ row.s_id) × ((change row).sf_type ≡ row.sf_type) × (facility_in_range (change row) ≡ true)

-- the book with the row of a facility changed, where there is one
abbrev pub facility_revised : Book → ℕ → ℕ → (SpecialFacilityRow → SpecialFacilityRow) → Book
facility_revised book s_id sf_type change = unwrap_or (option_map (λ row. put_facility book s_id sf_type (change row)) (facility_at book s_id sf_type)) book

-- what an addition answers, where the key has a row or not: the row is in; or its key has one, or memory was refused,
-- and nothing changed
abbrev pub IsAdded : Bool → Book → Book → Book → Result (Unit {0}) Refusal → Type 0
IsAdded there before with after (Ok u) = (there ≡ false) × (after ≡ with)
IsAdded there before with after (Err why) = (after ≡ before) × (why ≡ (if there then refusal.Exists else refusal.Memory))

-- the notes of a subscriber that moves from one area to another
abbrev pub area_moved : ℕ → ℕ → List (ℕ × ℤ)
area_moved from to = if from == to then [] else (FIRST_AREA + from, negsuc 0) ∷ (FIRST_AREA + to, pos 1) ∷ []

-- the notes of a subscriber that is added
abbrev pub subscriber_added : ℕ → ℕ → List (ℕ × ℤ)
subscriber_added area zone = (FIRST_AREA + area, pos 1) ∷ (FIRST_ZONE + zone, pos 1) ∷ []

-- a number as it is where it goes up, and negated where it goes down
abbrev pub signed : Bool → ℕ → ℤ
signed up n = if up then pos n else neg_ℤ (pos n)

-- the notes of a row of another table that comes into its zone, or leaves it
abbrev pub row_moved : Bool → ℕ → List (ℕ × ℤ)
row_moved up zone = (FIRST_ZONE + zone, signed up 1) ∷ []

-- an hour lies in a span, its end left out, 1 or 0
abbrev pub in_span : ℕ → ℕ → ℕ → ℕ
in_span from to hour = if nat_le from hour && nat_lt hour to then 1 else 0

-- how many of a facility's forwardings from 0, from 8 and from 16 cover an hour, by until when they run
abbrev pub covering : Spans → ℕ → ℕ
covering spans hour = in_span 0 spans.from_0 hour + in_span 8 spans.from_8 hour + in_span 16 spans.from_16 hour

-- they end by the last hour
abbrev pub AreSpans : Spans → Type 0
AreSpans spans = (spans.from_0 ≤ FIRST_AREA) × (spans.from_8 ≤ FIRST_AREA) × (spans.from_16 ≤ FIRST_AREA)

-- by how much an hour moves where a facility's forwardings come or go: by how many of them cover it
abbrev pub span_amount : Bool → Spans → ℕ → ℤ
span_amount up spans hour = signed up (covering spans hour)

-- a cell behind those of hours, which moves by one at most
pub record IsCellNote (note : Note) : Type 0 where
  pub high : FIRST_AREA ≤ note.cell
  pub within : note.cell < CELLS
  pub least : negsuc 0 ≤ℤ note.amount
  pub most : note.amount ≤ℤ pos 1

-- a change in its few bytes: where hours move the first cell doesn't, and the cells are two
pub record IsCompact (change : Change.Inside) : Type 0 where
  pub ends : AreSpans change.hours
  pub first : IsCellNote change.first
  pub second : IsCellNote change.second
  pub two : change.first.cell ≢ change.second.cell
  pub few : (change.first.amount ≡ pos 0) ⊎ ((hour : ℕ) → covering change.hours hour ≡ 0)

-- its notes: those of hours, then those of the two cells
abbrev pub notes_in : Change.Inside → List (ℕ × ℤ)
notes_in change = hour_notes (span_amount change.up change.hours) FIRST_AREA 0 ++ (note_of change.first.cell change.first.amount ++ note_of change.second.cell change.second.amount)

-- until when a forwarding that was found runs: 0 where there is none
abbrev pub until : Option CallForwardingRow → ℕ
until found = option_map_or (λ row. row.end_time) found 0

-- by how much an hour moves where one forwarding comes or goes, whose facility is active or not
abbrev pub row_amount : Bool → Bool → CallForwardingRow → ℕ → ℤ
row_amount up active row hour = if covers row hour && active then signed up 1 else pos 0

-- notes of the hours in front of one, each of which moves by its amount
pub record AreHours (amount : ℕ → ℤ) (hour : ℕ) (notes : List (ℕ × ℤ)) : Type 0 where
  pub few : length notes ≤ hour
  pub below : AllByRecursion (λ note. note.0 < hour) notes
  pub moved : (c : ℕ) → change_at notes c ≡ (if nat_lt c hour then amount c else pos 0)

-- notes of a forwarding that comes or goes: of the hours, and of its zone
abbrev pub AreForwardingNotes : Bool → Bool → CallForwardingRow → ℕ → List (ℕ × ℤ) → Type 0
AreForwardingNotes up active row zone notes =
    (c : ℕ) → change_at notes c ≡ (if nat_lt c FIRST_AREA then row_amount up active row c else pos 0) +ℤ change_at (row_moved up zone) c
