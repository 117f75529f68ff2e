-- Deltas of all cells, moved by what a change says.
use Rattle.tatp_actions.proofs.Common.{◌≡◌, ◌≢◌, ℕ, ◌+◌, ◌<◌, ◌≤◌, ◌==◌, arith, Bool, true, false, ◌&&◌, List, length, set, refl, ◌∙◌, nat_le, nat_lt, max, subst, inl, inr, if◌then◌else◌, FitsSigned, w64, to_z, of_z, ℤ, pos, ◌+ℤ◌, ints, to_z-of_z, length-set, get_or-set_same, get_or-set_other, cases_lt, nat_tests, by_test, NotesFit, change_at, delta_at, covering, in_span, signed, notes_in, IsCellNote, IsCompact, Note, CELLS, FIRST_AREA}
use Rattle.tatp_actions.specs.declared.change.Change.TheInside as Change
use Rattle.tatp_actions.proofs.ChangeLemmas.{note_other, note_same}
use Rattle.tatp_actions.proofs.HourLemmas.{compact_at, signed_none, none_covers}

-- deltas that moved by one each in the hours from one on up to another
pub record AreSpanned (start deltas : List ℤ) (up : Bool) (from to : ℕ) : Type 0 where
  pub wide : length deltas ≡ CELLS
  pub moved : (c : ℕ) → c < CELLS → delta_at deltas c ≡ delta_at start c +ℤ signed up (in_span from to c)

-- a span moves no hour that it has not come to
no_span : (up : Bool) (from to c : ℕ) → to ≤ max from c → signed up (in_span from to c) ≡ pos 0
no_span up from to c none =
    let e : (nat_le from c && nat_lt c to) ≡ false = grind (arith, nat_tests) in
    rw e (still up)
  where
    still : (up : Bool) → signed up 0 ≡ pos 0
    still true = refl
    still false = refl

-- one hour more
pub one_spanned : (start deltas : List ℤ) (up : Bool) (from hour : ℕ) (value : ℤ) → from ≤ hour → hour < CELLS → AreSpanned start deltas up from hour → value ≡ delta_at deltas hour +ℤ signed up 1 → AreSpanned start (set deltas hour value) up from (hour + 1)
one_spanned start deltas up from hour value order within so_far by = record {
  wide = length-set deltas hour value ∙ so_far.wide;
  moved = λ c below. by_test (hour == c) (here c below) (elsewhere c below);
}
  where
    here : (c : ℕ) → c < CELLS → (hour == c) ≡ true → delta_at (set deltas hour value) c ≡ delta_at start c +ℤ signed up (in_span from (hour + 1) c)
    here c below e =
        let same : c ≡ hour = grind (arith, nat_tests) in
        let now : (nat_le from hour && nat_lt hour (hour + 1)) ≡ true = grind (arith, nat_tests) in
        let was : (nat_le from hour && nat_lt hour hour) ≡ false = grind (arith, nat_tests) in
        let before : delta_at deltas hour ≡ delta_at start hour +ℤ signed up 0 = so_far.moved hour within ∙ rw was refl in
        let set_to = get_or-set_same deltas hour value (pos 0) (omega (arith, within, so_far.wide)) in
        rw (same, now, set_to, by, before) (still up (delta_at start hour))
      where
        still : (up : Bool) (z : ℤ) → (z +ℤ signed up 0) +ℤ signed up 1 ≡ z +ℤ signed up 1
        still true z = omega (arith, ints)
        still false z = omega (arith, ints)

    elsewhere : (c : ℕ) → c < CELLS → (hour == c) ≡ false → delta_at (set deltas hour value) c ≡ delta_at start c +ℤ signed up (in_span from (hour + 1) c)
    elsewhere c below e =
        let other : c ≡ hour → ⊥ = grind (arith, nat_tests) in
        let same : (nat_le from c && nat_lt c (hour + 1)) ≡ (nat_le from c && nat_lt c hour) = by_test (nat_lt c hour)
        (λ f. let g : nat_lt c (hour + 1) ≡ true = grind (arith, nat_tests) in rw (f, g) refl)
        (λ f. let g : nat_lt c (hour + 1) ≡ false = grind (arith, nat_tests) in rw (f, g) refl) in
        rw (get_or-set_other deltas hour c value (pos 0) other, same) (so_far.moved c below)

-- a sum of two numbers that fit, as the machine computes it
pub plain_sum : (a b : ℤ) → FitsSigned w64 a → FitsSigned w64 b → FitsSigned w64 (a +ℤ b) → to_z w64 (of_z w64 (to_z w64 (of_z w64 a) +ℤ to_z w64 (of_z w64 b))) ≡ a +ℤ b
plain_sum a b fits_a fits_b fits = rw (to_z-of_z w64 a fits_a, to_z-of_z w64 b fits_b, to_z-of_z w64 (a +ℤ b) fits) refl

-- one step fits
pub step_fits : (up : Bool) → FitsSigned w64 (signed up 1)
step_fits true = omega (arith, ints)
step_fits false = omega (arith, ints)

-- an hour of a span fits before it moves, and after
pub span_fits : (start deltas : List ℤ) (up : Bool) (from to hour : ℕ) → AreSpanned start deltas up from hour → from ≤ hour → hour < to → hour < CELLS → ((c : ℕ) → c < CELLS → FitsSigned w64 (delta_at start c))
    → ((c : ℕ) → c < CELLS → FitsSigned w64 (delta_at start c +ℤ signed up (in_span from to c))) → FitsSigned w64 (delta_at deltas hour) × FitsSigned w64 (delta_at deltas hour +ℤ signed up 1)
span_fits start deltas up from to hour so_far order before within fit fits =
    let is : delta_at deltas hour ≡ delta_at start hour = so_far.moved hour within ∙ here in
    let now : (nat_le from hour && nat_lt hour to) ≡ true = grind (arith, nat_tests) in
    let more : FitsSigned w64 (delta_at start hour +ℤ signed up 1) = rw now at (fits hour within) in
    (rw is (fit hour within), rw is more)
  where
    here : delta_at start hour +ℤ signed up (in_span from hour hour) ≡ delta_at start hour
    here = let none = no_span up from hour hour (omega arith) in omega (arith, ints, none)

-- behind the last hour of a span
pub span_end : (start deltas : List ℤ) (up : Bool) (from to hour : ℕ) → AreSpanned start deltas up from hour → hour ≤ max from to → from ≤ hour → to ≤ hour → (c : ℕ) → c < CELLS → delta_at deltas c ≡ delta_at start c +ℤ signed up (in_span from to c)
span_end start deltas up from to hour so_far most order end c below = elim (cases_lt from to) [
  | inl some ↦ let same : hour ≡ to = omega (arith, most, some, end) in subst (λ n. delta_at deltas c ≡ delta_at start c +ℤ signed up (in_span from n c)) same (so_far.moved c below)
  | inr none ↦
      let same : hour ≡ from = omega (arith, most, none, order) in
      let first = no_span up from hour c (omega (arith, same)) in
      let last = no_span up from to c (omega (arith, none)) in
      omega (arith, ints, so_far.moved c below, first, last)
]

-- signed one after another
pub signed_more : (up : Bool) (z : ℤ) (a b : ℕ) → (z +ℤ signed up a) +ℤ signed up b ≡ z +ℤ signed up (a + b)
signed_more true z a b = omega (arith, ints)
signed_more false z a b = omega (arith, ints)

-- fewer signed fit where more do
fewer_fit : (up : Bool) (z : ℤ) (a b : ℕ) → a ≤ b → FitsSigned w64 z → FitsSigned w64 (z +ℤ signed up b) → FitsSigned w64 (z +ℤ signed up a)
fewer_fit true z a b less fit fits = omega (arith, ints, less, fit, fits)
fewer_fit false z a b less fit fits = omega (arith, ints, less, fit, fits)

-- deltas to which a change is added, where each fits before and after
module _ (change : Change.Inside) (is : IsCompact change) (start : List ℤ) (fit : NotesFit start (notes_in change)) where
  -- a cell behind those of hours is covered by none
  uncovered : (c : ℕ) → FIRST_AREA ≤ c → covering change.hours c ≡ 0
  uncovered c late = none_covers change.hours c (omega (arith, is.ends, late)) (λ _. omega (arith, is.ends, late)) (λ _. omega (arith, is.ends, late))

  -- an hour is moved by no note of a cell
  no_note : (note : Note) (c : ℕ) → IsCellNote note → c < FIRST_AREA → (if note.cell == c then note.amount else pos 0) ≡ pos 0
  no_note note c cell early = note_other note.cell c note.amount (λ same. omega (arith, cell.high, early, same))

  covered_fits : (c : ℕ) → c < CELLS → FitsSigned w64 (delta_at start c +ℤ signed change.up (covering change.hours c))
  covered_fits c below = elim (cases_lt c FIRST_AREA) [
    | inl early ↦
        let total : change_at (notes_in change) c ≡ signed change.up (covering change.hours c) = compact_at change is c ∙ rw (no_note change.first c is.first early, no_note change.second c is.second early) (plain (signed change.up (covering change.hours c))) in
        rw total at (fit c below).1
    | inr late ↦ rw (uncovered c late, signed_none change.up, plain (delta_at start c)) (fit c below).0
  ]
    where
      plain : (z : ℤ) → z +ℤ pos 0 ≡ z
      plain z = omega (arith, ints)

  pub partial_fits : (c : ℕ) → c < CELLS → (a : ℕ) → a ≤ covering change.hours c → FitsSigned w64 (delta_at start c +ℤ signed change.up a)
  partial_fits c below a less = fewer_fit change.up (delta_at start c) a (covering change.hours c) less (fit c below).0 (covered_fits c below)

  -- after all three spans each cell has moved by as many signed as cover it
  pub three_spans : (one two three : List ℤ) → ((c : ℕ) → c < CELLS → delta_at one c ≡ delta_at start c +ℤ signed change.up (in_span 0 change.hours.from_0 c))
      → ((c : ℕ) → c < CELLS → delta_at two c ≡ delta_at one c +ℤ signed change.up (in_span 8 change.hours.from_8 c))
      → ((c : ℕ) → c < CELLS → delta_at three c ≡ delta_at two c +ℤ signed change.up (in_span 16 change.hours.from_16 c))
      → (c : ℕ) → c < CELLS → delta_at three c ≡ delta_at start c +ℤ signed change.up (covering change.hours c)
  three_spans one two three first second third c below =
      third c below ∙ rw (second c below, first c below, signed_more change.up (delta_at start c) (in_span 0 change.hours.from_0 c) (in_span 8 change.hours.from_8 c)) (signed_more change.up (delta_at start c) (in_span 0 change.hours.from_0 c + in_span 8 change.hours.from_8 c) (in_span 16 change.hours.from_16 c))

  module _ (deltas : List ℤ) (spanned : (c : ℕ) → c < CELLS → delta_at deltas c ≡ delta_at start c +ℤ signed change.up (covering change.hours c)) where
    -- behind the hours nothing has moved
    still : (c : ℕ) → c < CELLS → FIRST_AREA ≤ c → delta_at deltas c ≡ delta_at start c
    still c below late = spanned c below ∙ rw (uncovered c late, signed_none change.up) (plain (delta_at start c))
      where
        plain : (z : ℤ) → z +ℤ pos 0 ≡ z
        plain z = omega (arith, ints)

    -- a cell of a note moves by its amount
    total : (note other : Note) (c : ℕ) → IsCellNote note → c ≡ note.cell → note.cell ≢ other.cell
        → signed change.up (covering change.hours c) +ℤ ((if note.cell == c then note.amount else pos 0) +ℤ (if other.cell == c then other.amount else pos 0)) ≡ note.amount
    total note other c cell same two = rw (uncovered c (omega (arith, same, cell.high)), signed_none change.up, note_same note.cell c note.amount (omega (arith, same)), note_other other.cell c other.amount (λ meets. two (omega (arith, meets, same)))) (plain note.amount)
      where
        plain : (z : ℤ) → pos 0 +ℤ (z +ℤ pos 0) ≡ z
        plain z = omega (arith, ints)

    at_first : change_at (notes_in change) change.first.cell ≡ change.first.amount
    at_first = compact_at change is change.first.cell ∙ total change.first change.second change.first.cell is.first refl is.two

    at_second : change_at (notes_in change) change.second.cell ≡ change.second.amount
    at_second = compact_at change is change.second.cell ∙ swapped ∙ total change.second change.first change.second.cell is.second refl (λ same. is.two (omega (arith, same)))
      where
        swapped : signed change.up (covering change.hours change.second.cell) +ℤ ((if change.first.cell == change.second.cell then change.first.amount else pos 0) +ℤ (if change.second.cell == change.second.cell then change.second.amount else pos 0))
            ≡ signed change.up (covering change.hours change.second.cell) +ℤ ((if change.second.cell == change.second.cell then change.second.amount else pos 0) +ℤ (if change.first.cell == change.second.cell then change.first.amount else pos 0))
        swapped = omega (arith, ints)

    pub first_fits : FitsSigned w64 (delta_at deltas change.first.cell +ℤ change.first.amount)
    first_fits =
        let sum = rw at_first at (fit change.first.cell is.first.within).1 in
        rw (still change.first.cell is.first.within is.first.high) sum

    -- the other note's cell is as it was
    other_cell : (value : ℤ) → delta_at (set deltas change.first.cell value) change.second.cell ≡ delta_at start change.second.cell
    other_cell value = get_or-set_other deltas change.first.cell change.second.cell value (pos 0) (λ same. is.two (omega (arith, same))) ∙ still change.second.cell is.second.within is.second.high

    pub second_fits : (value : ℤ) → FitsSigned w64 (delta_at (set deltas change.first.cell value) change.second.cell +ℤ change.second.amount)
    second_fits value =
        let sum = rw at_second at (fit change.second.cell is.second.within).1 in
        rw (other_cell value) sum

    -- all is added
    pub added : length deltas ≡ CELLS → (one two : List ℤ) → one ≡ set deltas change.first.cell (delta_at deltas change.first.cell +ℤ change.first.amount) → two ≡ set one change.second.cell (delta_at one change.second.cell +ℤ change.second.amount)
        → (c : ℕ) → c < CELLS → delta_at two c ≡ delta_at start c +ℤ change_at (notes_in change) c
    added wide one two first second c below = by_test (change.second.cell == c) last (λ e. by_test (change.first.cell == c) (before e) (neither e))
      where
        last : (change.second.cell == c) ≡ true → delta_at two c ≡ delta_at start c +ℤ change_at (notes_in change) c
        last e =
            let same : c ≡ change.second.cell = grind (arith, nat_tests) in
            rw (same, at_second, second, first, get_or-set_same (set deltas change.first.cell (delta_at deltas change.first.cell +ℤ change.first.amount)) change.second.cell (delta_at (set deltas change.first.cell (delta_at deltas change.first.cell +ℤ change.first.amount)) change.second.cell +ℤ change.second.amount) (pos 0) (omega (arith, wide, is.second.within, length-set deltas change.first.cell (delta_at deltas change.first.cell +ℤ change.first.amount))), other_cell (delta_at deltas change.first.cell +ℤ change.first.amount)) refl

        before : (change.second.cell == c) ≡ false → (change.first.cell == c) ≡ true → delta_at two c ≡ delta_at start c +ℤ change_at (notes_in change) c
        before f e =
            let same : c ≡ change.first.cell = grind (arith, nat_tests) in
            rw (same, at_first, second, first, get_or-set_other (set deltas change.first.cell (delta_at deltas change.first.cell +ℤ change.first.amount)) change.second.cell change.first.cell (delta_at (set deltas change.first.cell (delta_at deltas change.first.cell +ℤ change.first.amount)) change.second.cell +ℤ change.second.amount) (pos 0) is.two, get_or-set_same deltas change.first.cell (delta_at deltas change.first.cell +ℤ change.first.amount) (pos 0) (omega (arith, wide, is.first.within)), still change.first.cell is.first.within is.first.high) refl

        plain : (z w : ℤ) → z +ℤ w ≡ z +ℤ (w +ℤ (pos 0 +ℤ pos 0))
        plain z w = omega (arith, ints)

        neither : (change.second.cell == c) ≡ false → (change.first.cell == c) ≡ false → delta_at two c ≡ delta_at start c +ℤ change_at (notes_in change) c
        neither f e =
            let this : c ≡ change.first.cell → ⊥ = grind (arith, nat_tests) in
            let that : c ≡ change.second.cell → ⊥ = grind (arith, nat_tests) in
            rw (compact_at change is c, e, f, second, first, get_or-set_other (set deltas change.first.cell (delta_at deltas change.first.cell +ℤ change.first.amount)) change.second.cell c (delta_at (set deltas change.first.cell (delta_at deltas change.first.cell +ℤ change.first.amount)) change.second.cell +ℤ change.second.amount) (pos 0) that, get_or-set_other deltas change.first.cell c (delta_at deltas change.first.cell +ℤ change.first.amount) (pos 0) this, spanned c below) (plain (delta_at start c) (signed change.up (covering change.hours c)))
