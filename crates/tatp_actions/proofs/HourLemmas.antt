-- Notes of hours: how they grow, hour by hour.
use Rattle.tatp_actions.proofs.Common.{◌≡◌, ◌≢◌, ℕ, ◌+◌, ◌-◌, ◌<◌, ◌≤◌, ◌==◌, refl, sym, ◌∙◌, ap, arith, suc, zero, subst, append-nil, Bool, true, false, List, [], ◌∷◌, ◌++◌, length, nat_le, nat_lt, ◌&&◌, inl, inr, if◌then◌else◌, ℤ, pos, negsuc, ◌+ℤ◌, ◌≤ℤ◌, AllByRecursion, nat_tests, ints, append_assoc, length-append, each-append, by_test, each-weaker, CallForwardingRow, change_at, is_zero, note_of, IsNote, NoteEachOnce, AreHours, AreForwardingNotes, IsCellNote, IsCompact, notes_in, in_span, covering, span_amount, row_moved, row_amount, signed, Note, Spans, NOTES, CELLS, FIRST_AREA, FIRST_ZONE}
use Rattle.tatp_actions.specs.Change.{hour_notes}
use Rattle.tatp_actions.specs.declared.change.Change.TheInside as Change
use Rattle.tatp_actions.proofs.ChangeLemmas.{change_at-append, row_moved-low, row_moved-zone}

-- one more note, of a cell that none names
pub once-more : (notes : List (ℕ × ℤ)) (note : ℕ × ℤ) → NoteEachOnce notes → AllByRecursion (λ other. other.0 ≢ note.0) notes → NoteEachOnce (notes ++ note ∷ [])
once-more [] note once new = (tt, tt)
once-more (first ∷ notes) note once new = (
  each-append (λ (other : ℕ × ℤ). other.0 ≢ first.0) notes (note ∷ []) once.0 ((λ h. new.0 (omega arith)), tt),
  once-more notes note once.1 new.1,
)

-- an amount that is tested to be 0
zero_of : (z : ℤ) → is_zero z ≡ true → z ≡ pos 0
zero_of (pos n) e = let none : n ≡ 0 = grind (arith, nat_tests) in ap pos none
zero_of (negsuc n) e = let wrong : ⊥ = cc in absurd wrong

moves : (z : ℤ) → is_zero z ≡ false → z ≡ pos 0 → ⊥
moves z e zero_is = let t : is_zero z ≡ true = rw zero_is refl in cc (e, t)

module _ (amount : ℕ → ℤ) where
  -- before the first hour
  pub no_hours : AreHours amount 0 []
  no_hours = record {
    few = omega arith;
    below = tt;
    moved = λ c. (let e : nat_lt c 0 ≡ false = grind (arith, nat_tests) in rw e refl);
  }

  -- hours that don't move need no note
  pub hours_skipped : (from to : ℕ) (notes : List (ℕ × ℤ)) → AreHours amount from notes → from ≤ to → ((c : ℕ) → from ≤ c → c < to → amount c ≡ pos 0) → AreHours amount to notes
  hours_skipped from to notes so_far order still = record {
    few = omega (arith, so_far.few);
    below = each-weaker {P = λ (note : ℕ × ℤ). note.0 < from} {Q = λ (note : ℕ × ℤ). note.0 < to} (λ note below. omega arith) notes so_far.below;
    moved = λ c. so_far.moved c ∙ by_test (nat_lt c from)
        (λ e. let f : nat_lt c to ≡ true = grind (arith, nat_tests) in rw (e, f) refl)
        (λ e. by_test (nat_lt c to) (λ f. let is : amount c ≡ pos 0 = still c (grind (arith, nat_tests)) (grind (arith, nat_tests)) in rw (e, f, is) refl) (λ f. rw (e, f) refl));
  }

  -- one more hour
  pub one_hour : (hour cell : ℕ) (step : ℤ) (notes : List (ℕ × ℤ)) → AreHours amount hour notes → cell ≡ hour → step ≡ amount hour → AreHours amount (hour + 1) (notes ++ (cell, step) ∷ [])
  one_hour hour cell step notes so_far is by = record {
    few = rw length-append (omega (arith, so_far.few));
    below = each-append (λ (note : ℕ × ℤ). note.0 < hour + 1) notes ((cell, step) ∷ [])
        (each-weaker {P = λ (note : ℕ × ℤ). note.0 < hour} {Q = λ (note : ℕ × ℤ). note.0 < hour + 1} (λ note below. omega arith) notes so_far.below) (omega arith, tt);
    moved = λ c. change_at-append notes ((cell, step) ∷ []) c ∙ at c;
  }
    where
      at : (c : ℕ) → change_at notes c +ℤ ((if cell == c then step else pos 0) +ℤ pos 0) ≡ (if nat_lt c (hour + 1) then amount c else pos 0)
      at c = by_test (cell == c)
          (λ e. let here : c ≡ hour = grind (arith, nat_tests) in
          let f : nat_lt c hour ≡ false = grind (arith, nat_tests) in
          let g : nat_lt c (hour + 1) ≡ true = grind (arith, nat_tests) in
          let was : change_at notes c ≡ pos 0 = so_far.moved c ∙ rw f refl in
          let now : step ≡ amount c = by ∙ ap amount (grind arith) in
          rw (e, g, was) (omega (arith, ints)))
          (λ e. by_test (nat_lt c hour)
          (λ f. let g : nat_lt c (hour + 1) ≡ true = grind (arith, nat_tests) in
          let was : change_at notes c ≡ amount c = so_far.moved c ∙ rw f refl in
          rw (e, g, was) (omega (arith, ints)))
          (λ f. let g : nat_lt c (hour + 1) ≡ false = grind (arith, nat_tests) in
          let was : change_at notes c ≡ pos 0 = so_far.moved c ∙ rw f refl in
          rw (e, g, was) (omega (arith, ints))))

  -- the hours up to one that moves by its amount, or not at all
  hour_more : (hour : ℕ) (notes : List (ℕ × ℤ)) → AreHours amount hour notes → AreHours amount (hour + 1) (notes ++ note_of hour (amount hour))
  hour_more hour notes so_far = by_test (is_zero (amount hour))
      (λ e. rw (e, append-nil notes) (hours_skipped hour (hour + 1) notes so_far (omega arith) (λ c after before. let same : c ≡ hour = omega (arith, after, before) in rw same (zero_of (amount hour) e))))
      (λ e. rw e (one_hour hour hour (amount hour) notes so_far refl refl))

  -- and so many hours more
  pub hours_more : (n from : ℕ) (notes : List (ℕ × ℤ)) → AreHours amount from notes → AreHours amount (from + n) (notes ++ hour_notes amount n from)
  unfolding hour_notes
  hours_more zero from notes so_far = let same : from + 0 ≡ from = omega arith in rw (same, append-nil notes) so_far
  hours_more (suc n) from notes so_far =
      let rest = hours_more n (from + 1) (notes ++ note_of from (amount from)) (hour_more from notes so_far) in
      let same : from + suc n ≡ from + 1 + n = omega arith in
      rw (same, ← append_assoc notes (note_of from (amount from)) (hour_notes amount n (from + 1))) rest

  -- the notes of hours from the first one on
  pub hours_are : (n : ℕ) → AreHours amount n (hour_notes amount n 0)
  hours_are n = let same : 0 + n ≡ n = omega arith in subst (λ m. AreHours amount m (hour_notes amount n 0)) same (hours_more n 0 [] no_hours)

  -- hours of which none moves have no notes
  pub no_hour_notes : (n from : ℕ) → ((c : ℕ) → amount c ≡ pos 0) → hour_notes amount n from ≡ []
  unfolding hour_notes
  no_hour_notes zero from still = refl
  no_hour_notes (suc n) from still = rw (still from) (no_hour_notes n (from + 1) still)

  pub hour_notes-few : (n from : ℕ) → length (hour_notes amount n from) ≤ n
  unfolding hour_notes
  hour_notes-few zero from = omega arith
  hour_notes-few (suc n) from =
      let rest = hour_notes-few n (from + 1) in
      by_test (is_zero (amount from)) (λ e. rw e (omega (arith, rest))) (λ e. rw e (omega (arith, rest)))

  pub hour_notes-from : (n from : ℕ) → AllByRecursion (λ (note : ℕ × ℤ). from ≤ note.0) (hour_notes amount n from)
  unfolding hour_notes
  hour_notes-from zero from = tt
  hour_notes-from (suc n) from =
      let rest = each-weaker {P = λ (note : ℕ × ℤ). from + 1 ≤ note.0} {Q = λ (note : ℕ × ℤ). from ≤ note.0} (λ note above. omega (arith, above)) (hour_notes amount n (from + 1)) (hour_notes-from n (from + 1)) in
      by_test (is_zero (amount from)) (λ e. rw e rest) (λ e. rw e (omega arith, rest))

  pub hour_notes-each : (n from : ℕ) → from + n ≤ CELLS → ((c : ℕ) → (negsuc 7 ≤ℤ amount c) × (amount c ≤ℤ pos 8)) → AllByRecursion IsNote (hour_notes amount n from)
  unfolding hour_notes
  hour_notes-each zero from within small = tt
  hour_notes-each (suc n) from within small =
      let rest = hour_notes-each n (from + 1) (omega (arith, within)) small in
      by_test (is_zero (amount from)) (λ e. rw e rest) (λ e. rw e ((omega (arith, within), (small from).0, (small from).1, (λ z. moves (amount from) e z)), rest))

  pub hour_notes-once : (n from : ℕ) → NoteEachOnce (hour_notes amount n from)
  unfolding hour_notes
  hour_notes-once zero from = tt
  hour_notes-once (suc n) from =
      let rest = hour_notes-once n (from + 1) in
      let above = each-weaker {P = λ (note : ℕ × ℤ). from + 1 ≤ note.0} {Q = λ (note : ℕ × ℤ). note.0 ≢ from} (λ note above same. omega (arith, above, same)) (hour_notes amount n (from + 1)) (hour_notes-from n (from + 1)) in
      by_test (is_zero (amount from)) (λ e. rw e rest) (λ e. rw e (above, rest))

-- hours that no forwarding covers don't move
pub signed_none : (up : Bool) → signed up 0 ≡ pos 0
signed_none true = refl
signed_none false = refl

-- an hour is covered by none behind the ends of those that start no later
pub none_covers : (spans : Spans) (c : ℕ) → spans.from_0 ≤ c → (8 ≤ c → spans.from_8 ≤ c) → (16 ≤ c → spans.from_16 ≤ c) → covering spans c ≡ 0
none_covers spans c first second third = rw (beyond 0 spans.from_0 c (λ from. first), beyond 8 spans.from_8 c second, beyond 16 spans.from_16 c third) refl
  where
    beyond : (from to c : ℕ) → (from ≤ c → to ≤ c) → in_span from to c ≡ 0
    beyond from to c ends =
        by_test (nat_le from c)
        (λ e. let f : nat_lt c to ≡ false = let end = ends (grind (arith, nat_tests)) in grind (arith, nat_tests) in rw (e, f) refl)
        (λ e. rw e refl)

-- at most three cover an hour
covers_few : (spans : Spans) (c : ℕ) → covering spans c ≤ 3
covers_few spans c = omega (arith, at_most 0 spans.from_0 c, at_most 8 spans.from_8 c, at_most 16 spans.from_16 c)
  where
    at_most : (from to c : ℕ) → in_span from to c ≤ 1
    at_most from to c = by_test (nat_le from c && nat_lt c to) (λ e. rw e (omega arith)) (λ e. rw e (omega arith))

-- where no hour is covered there are no notes of hours
pub no_span_notes : (up : Bool) (spans : Spans) → ((c : ℕ) → covering spans c ≡ 0) → hour_notes (span_amount up spans) FIRST_AREA 0 ≡ []
no_span_notes up spans none = no_hour_notes (span_amount up spans) FIRST_AREA 0 (λ c. ap (signed up) (none c) ∙ signed_none up)

-- the note of a cell moves it alone
pub note_of-at : (cell : ℕ) (amount : ℤ) (c : ℕ) → change_at (note_of cell amount) c ≡ (if cell == c then amount else pos 0)
note_of-at cell amount c = by_test (is_zero amount)
    (λ e. let none = zero_of amount e in by_test (cell == c) (λ f. rw (e, f, none) refl) (λ f. rw (e, f) refl))
    (λ e. rw e (omega (arith, ints)))

-- an hour moves by the signed of a forwarding that covers it, whose facility is active
row_span : (up active : Bool) (row : CallForwardingRow) (spans : Spans) (c : ℕ) → covering spans c ≡ (if active then in_span row.start_time row.end_time c else 0) → span_amount up spans c ≡ row_amount up active row c
row_span up false row spans c is = by_test (nat_le row.start_time c && nat_lt c row.end_time) (λ e. rw (is, e) (signed_none up)) (λ e. rw (is, e) (signed_none up))
row_span up true row spans c is = by_test (nat_le row.start_time c && nat_lt c row.end_time) (λ e. rw (is, e) refl) (λ e. rw (is, e) (signed_none up))

-- the notes of hours, and one of a zone
pub with_zone : (up active : Bool) (row : CallForwardingRow) (zone : ℕ) (spans : Spans) (notes : List (ℕ × ℤ)) (step : ℤ) → ((c : ℕ) → covering spans c ≡ (if active then in_span row.start_time row.end_time c else 0))
    → notes ≡ hour_notes (span_amount up spans) FIRST_AREA 0 ++ note_of (FIRST_ZONE + zone) step → step ≡ signed up 1 → AreForwardingNotes up active row zone notes
with_zone up active row zone spans notes step covered noted by = λ c.
    let hours = (hours_are (span_amount up spans) FIRST_AREA).moved c in
    let rows : (if nat_lt c FIRST_AREA then span_amount up spans c else pos 0) ≡ (if nat_lt c FIRST_AREA then row_amount up active row c else pos 0) = ap (λ (z : ℤ). if nat_lt c FIRST_AREA then z else pos 0) (row_span up active row spans c (covered c)) in
    let zone_at = note_of-at (FIRST_ZONE + zone) (signed up 1) c in
    let moved : change_at (row_moved up zone) c ≡ (if FIRST_ZONE + zone == c then signed up 1 else pos 0) = omega (arith, ints) in
    rw (noted, by) (change_at-append (hour_notes (span_amount up spans) FIRST_AREA 0) (note_of (FIRST_ZONE + zone) (signed up 1)) c ∙ rw (hours, rows, zone_at, moved) refl)

-- what the notes of a forwarding say of an hour, of an area, and of a zone
pub forwarding_notes-hour : (up active : Bool) (row : CallForwardingRow) (zone c : ℕ) (notes : List (ℕ × ℤ)) → AreForwardingNotes up active row zone notes → c < FIRST_AREA → change_at notes c ≡ row_amount up active row c
forwarding_notes-hour up active row zone c notes are low =
    let e : nat_lt c FIRST_AREA ≡ true = grind (arith, nat_tests) in are c ∙ rw (e, row_moved-low up zone c (omega arith)) (omega (arith, ints))

pub forwarding_notes-area : (up active : Bool) (row : CallForwardingRow) (zone a : ℕ) (notes : List (ℕ × ℤ)) → AreForwardingNotes up active row zone notes → a < 16 → change_at notes (FIRST_AREA + a) ≡ pos 0
forwarding_notes-area up active row zone a notes are below =
    let e : nat_lt (FIRST_AREA + a) FIRST_AREA ≡ false = grind (arith, nat_tests) in are (FIRST_AREA + a) ∙ rw (e, row_moved-low up zone (FIRST_AREA + a) (omega arith)) refl

pub forwarding_notes-zone : (up active : Bool) (row : CallForwardingRow) (zone z : ℕ) (notes : List (ℕ × ℤ)) → AreForwardingNotes up active row zone notes → change_at notes (FIRST_ZONE + z) ≡ (if zone == z then signed up 1 else pos 0)
forwarding_notes-zone up active row zone z notes are =
    let e : nat_lt (FIRST_ZONE + z) FIRST_AREA ≡ false = grind (arith, nat_tests) in are (FIRST_ZONE + z) ∙ rw (e, row_moved-zone up zone z) (omega (arith, ints))

-- what the notes of hours say of an hour, and of another cell
pub hours_moved-low : (up : Bool) (spans : Spans) (c : ℕ) (notes : List (ℕ × ℤ)) → AreHours (span_amount up spans) FIRST_AREA notes → c < FIRST_AREA → change_at notes c ≡ signed up (covering spans c)
hours_moved-low up spans c notes are low = let e : nat_lt c FIRST_AREA ≡ true = grind (arith, nat_tests) in are.moved c ∙ rw e refl

pub hours_moved-high : (up : Bool) (spans : Spans) (c : ℕ) (notes : List (ℕ × ℤ)) → AreHours (span_amount up spans) FIRST_AREA notes → FIRST_AREA ≤ c → change_at notes c ≡ pos 0
hours_moved-high up spans c notes are high = let e : nat_lt c FIRST_AREA ≡ false = grind (arith, nat_tests) in are.moved c ∙ rw e refl

-- a note of a cell is one at most
pub note_of-few : (cell : ℕ) (amount : ℤ) → length (note_of cell amount) ≤ 1
note_of-few cell amount = by_test (is_zero amount) (λ e. rw e (omega arith)) (λ e. rw e (omega arith))

-- the notes of hours from one on are its own and those of the hours behind it
pub next_hour : (amount : ℕ → ℤ) (hour : ℕ) → hour < FIRST_AREA → hour_notes amount (FIRST_AREA - hour) hour ≡ note_of hour (amount hour) ++ hour_notes amount (FIRST_AREA - (hour + 1)) (hour + 1)
unfolding hour_notes
next_hour amount hour below = let more : FIRST_AREA - hour ≡ suc (FIRST_AREA - (hour + 1)) = omega (arith, below) in rw more refl

-- behind the last one there are none
pub no_hour : (amount : ℕ → ℤ) (n hour : ℕ) → n ≡ 0 → hour_notes amount n hour ≡ []
unfolding hour_notes
no_hour amount n hour none = rw none refl

-- one more hour is noted
pub hour_noted : (amount : ℕ → ℤ) (hour : ℕ) (step : ℤ) (notes more all : List (ℕ × ℤ)) → hour < FIRST_AREA → step ≡ amount hour → notes ++ hour_notes amount (FIRST_AREA - hour) hour ≡ all → length notes ≤ hour → more ≡ notes ++ note_of hour step
    → (hour + 1 ≤ FIRST_AREA) × (length more ≤ hour + 1) × (more ++ hour_notes amount (FIRST_AREA - (hour + 1)) (hour + 1) ≡ all)
hour_noted amount hour step notes more all below by so_far few noted =
    let one = note_of-few hour step in
    let long = length-append notes (note_of hour step) in
    let same : length more ≡ length (notes ++ note_of hour step) = ap length noted in (
      omega (arith, below),
      omega (arith, one, long, same, few),
      rw (noted, by) (append_assoc notes (note_of hour (amount hour)) (hour_notes amount (FIRST_AREA - (hour + 1)) (hour + 1)) ∙ ap (λ (rest : List (ℕ × ℤ)). notes ++ rest) (sym (next_hour amount hour below)) ∙ so_far),
    )

-- what a change that is kept in few bytes does to a cell
module _ (change : Change.Inside) (is : IsCompact change) where
  compact_hour : (c : ℕ) → change_at (hour_notes (span_amount change.up change.hours) FIRST_AREA 0) c ≡ signed change.up (covering change.hours c)
  compact_hour c = (hours_are (span_amount change.up change.hours) FIRST_AREA).moved c ∙ by_test (nat_lt c FIRST_AREA)
      (λ e. rw e refl)
      (λ e. let late : FIRST_AREA ≤ c = grind (arith, nat_tests) in
      let none = none_covers change.hours c (omega (arith, is.ends, late)) (λ _. omega (arith, is.ends, late)) (λ _. omega (arith, is.ends, late)) in
      rw (e, none, signed_none change.up) refl)

  pub compact_at : (c : ℕ) → change_at (notes_in change) c ≡ signed change.up (covering change.hours c) +ℤ ((if change.first.cell == c then change.first.amount else pos 0) +ℤ (if change.second.cell == c then change.second.amount else pos 0))
  compact_at c =
      let hours = hour_notes (span_amount change.up change.hours) FIRST_AREA 0 in
      let first = note_of change.first.cell change.first.amount in
      let second = note_of change.second.cell change.second.amount in
      change_at-append hours (first ++ second) c ∙ rw (compact_hour c, change_at-append first second c, note_of-at change.first.cell change.first.amount c, note_of-at change.second.cell change.second.amount c) refl

  small_hours : (c : ℕ) → (negsuc 7 ≤ℤ span_amount change.up change.hours c) × (span_amount change.up change.hours c ≤ℤ pos 8)
  small_hours c = small change.up (covering change.hours c) (covers_few change.hours c)
    where
      small : (up : Bool) (n : ℕ) → n ≤ 3 → (negsuc 7 ≤ℤ signed up n) × (signed up n ≤ℤ pos 8)
      small true n few = (omega (arith, ints, few), omega (arith, ints, few))
      small false n few = (omega (arith, ints, few), omega (arith, ints, few))

  pub compact_few : length (notes_in change) ≤ NOTES
  compact_few =
      let amount = span_amount change.up change.hours in
      let first = note_of change.first.cell change.first.amount in
      let second = note_of change.second.cell change.second.amount in
      let whole = length-append (hour_notes amount FIRST_AREA 0) (first ++ second) in
      let pair = length-append first second in
      let one = note_of-few change.first.cell change.first.amount in
      let two = note_of-few change.second.cell change.second.amount in
      elim is.few [
        | inl still ↦
            let none : length first ≡ 0 = rw still refl in
            omega (arith, whole, pair, two, none, hour_notes-few amount FIRST_AREA 0)
        | inr none ↦
            let no_hours : length (hour_notes amount FIRST_AREA 0) ≡ 0 = rw (no_span_notes change.up change.hours none) refl in
            omega (arith, whole, pair, one, two, no_hours)
      ]

  -- there is room for the last note behind the others
  pub last_fits : (hours notes : List (ℕ × ℤ)) → hours ++ [] ≡ hour_notes (span_amount change.up change.hours) FIRST_AREA 0 → length hours ≤ FIRST_AREA → notes ≡ hours ++ note_of change.first.cell change.first.amount → length notes < NOTES
  last_fits hours notes all most noted =
      let first = note_of change.first.cell change.first.amount in
      let whole = length-append hours first in
      let one = note_of-few change.first.cell change.first.amount in
      let same : length notes ≡ length (hours ++ first) = ap length noted in
      elim is.few [
        | inl still ↦
            let none : length first ≡ 0 = rw still refl in
            omega (arith, same, whole, none, most)
        | inr none ↦
            let no_hours : length hours ≡ 0 = ap length (sym (append-nil hours) ∙ all ∙ no_span_notes change.up change.hours none) in
            omega (arith, same, whole, one, no_hours)
      ]

  pub compact_each : AllByRecursion IsNote (notes_in change)
  compact_each = each-append IsNote (hour_notes (span_amount change.up change.hours) FIRST_AREA 0) _ (hour_notes-each (span_amount change.up change.hours) FIRST_AREA 0 (omega arith) small_hours)
      (each-append IsNote (note_of change.first.cell change.first.amount) (note_of change.second.cell change.second.amount) (one change.first is.first) (one change.second is.second))
    where
      one : (note : Note) → IsCellNote note → AllByRecursion IsNote (note_of note.cell note.amount)
      one note cell = by_test (is_zero note.amount) (λ e. rw e tt) (λ e. rw e ((cell.within, omega (arith, ints, cell.least), omega (arith, ints, cell.most), (λ z. moves note.amount e z)), tt))

  pub compact_once : NoteEachOnce (notes_in change)
  compact_once = subst NoteEachOnce (append_assoc hours first second) (more change.second (hours ++ first) (more change.first hours (hour_notes-once amount FIRST_AREA 0) (apart change.first is.first)) both)
    where
      amount : ℕ → ℤ
      amount = span_amount change.up change.hours

      hours : List (ℕ × ℤ)
      hours = hour_notes amount FIRST_AREA 0

      first : List (ℕ × ℤ)
      first = note_of change.first.cell change.first.amount

      second : List (ℕ × ℤ)
      second = note_of change.second.cell change.second.amount

      apart : (note : Note) → IsCellNote note → AllByRecursion (λ (other : ℕ × ℤ). other.0 ≢ note.cell) hours
      apart note cell = each-weaker {P = λ (other : ℕ × ℤ). other.0 < FIRST_AREA} {Q = λ (other : ℕ × ℤ). other.0 ≢ note.cell} (λ other below same. omega (arith, below, same, cell.high)) hours (hours_are amount FIRST_AREA).below

      more : (note : Note) (notes : List (ℕ × ℤ)) → NoteEachOnce notes → AllByRecursion (λ (other : ℕ × ℤ). other.0 ≢ note.cell) notes → NoteEachOnce (notes ++ note_of note.cell note.amount)
      more note notes once new = by_test (is_zero note.amount) (λ e. rw (e, append-nil notes) once) (λ e. rw e (once-more notes (note.cell, note.amount) once new))

      both : AllByRecursion (λ (other : ℕ × ℤ). other.0 ≢ change.second.cell) (hours ++ first)
      both = each-append (λ (other : ℕ × ℤ). other.0 ≢ change.second.cell) hours first (apart change.second is.second)
          (by_test (is_zero change.first.amount) (λ e. rw e tt) (λ e. rw e (is.two, tt)))
