-- The counts of active forwardings, where another row is put in a facility's place.
use Rattle.tatp_actions.proofs.Common.{◌≡◌, ◌≢◌, refl, ◌∙◌, ap, subst, ℕ, ◌+◌, ◌<◌, arith, Bool, true, false, List, [], ◌∷◌, Some, if◌then◌else◌, ℤ, pos, ◌+ℤ◌, ◌==◌, ◌&&◌, not, ⊤, count_by, AllByRecursion, sum_by, nat_tests, by_test, sums_agree, sum_by-with_row_at, row_at-with_row_at_same, row_at-with_row_at_other, count_of_none, key_of, facility_key, row_at, with_row_at, SpecialFacilityRow, CallForwardingRow, zone_of, Book, IsBook, facility_at, has_active, forwarding_at, put_facility, covers, has_active_facility, IsChange, AreHours, covering, span_amount, signed, until, Spans, FIRST_AREA, FIRST_ZONE}
use Rattle.tatp_actions.specs.Cell.{active_forwardings, in_zone}
use Rattle.tatp_actions.proofs.ChangeLemmas.{one, moved_by, not_moved}
use Rattle.tatp_actions.proofs.CellLemmas.{change_by_kinds, area-facilities}
use Rattle.tatp_actions.proofs.CoverLemmas.{is_of, all_that_cover}
use Rattle.tatp_actions.proofs.HourLemmas.{hours_moved-low, hours_moved-high}

-- tests of a row that count alike on both sides
crosswise : (here x y : Bool) → one (here && y) + one (x && here) ≡ one (here && x) + one (y && here)
crosswise true true true = refl
crosswise true true false = refl
crosswise true false true = refl
crosswise true false false = refl
crosswise false true true = refl
crosswise false true false = refl
crosswise false false true = refl
crosswise false false false = refl

elsewhere : (x y : Bool) (n : ℕ) → n + one (x && false) ≡ n + one (y && false)
elsewhere true true n = refl
elsewhere true false n = refl
elsewhere false true n = refl
elsewhere false false n = refl

-- counts that move by the same
as_active : (a b m n k : ℕ) → m ≡ n → a + (if n == 1 then k else 0) ≡ b + (if m == 1 then k else 0) → a ≡ b
as_active a b m n k same counts =
    let counts' = subst (λ (i : ℕ). a + (if n == 1 then k else 0) ≡ b + (if i == 1 then k else 0)) same counts in omega arith

-- a count under a test that doesn't look at the elements
count_if : {X : Type 0} (test : Bool) (p : X → Bool) (xs : List X) → count_by (λ x. test && p x) xs ≡ (if test then count_by p xs else 0)
count_if true p xs = refl
count_if false p xs = count_of_none xs

all_any : {X : Type 0} (xs : List X) → AllByRecursion (λ (x : X). ⊤) xs
all_any [] = tt
all_any (x ∷ xs) = (tt, all_any xs)

-- how many forwardings of a facility cover an hour
abbrev that_cover : ℕ → ℕ → ℕ → Book → ℕ
that_cover s t hour book = count_by (λ (row : CallForwardingRow). is_of s t row && covers row hour) book.forwardings

module _ (book : Book) (s t : ℕ) (x y : SpecialFacilityRow) (found : facility_at book s t ≡ Some x) (at : facility_key y ≡ key_of s t 0) where
  -- whether the facility of a row is active then: the row that was put, or the same as before
  active_here : (row : CallForwardingRow) → key_of row.s_id row.sf_type 0 ≡ key_of s t 0 → has_active_facility (put_facility book s t y) row ≡ (y.is_active == 1)
  active_here row same =
      ap has_active (ap (λ (k : ℕ). row_at facility_key k (with_row_at facility_key (key_of s t 0) y book.facilities)) same ∙ row_at-with_row_at_same facility_key (key_of s t 0) y book.facilities x at found)

  active_before : (row : CallForwardingRow) → key_of row.s_id row.sf_type 0 ≡ key_of s t 0 → has_active_facility book row ≡ (x.is_active == 1)
  active_before row same = ap has_active (ap (λ (k : ℕ). row_at facility_key k book.facilities) same ∙ found)

  active_elsewhere : (row : CallForwardingRow) → key_of row.s_id row.sf_type 0 ≢ key_of s t 0 → has_active_facility (put_facility book s t y) row ≡ has_active_facility book row
  active_elsewhere row other = ap has_active (row_at-with_row_at_other facility_key (key_of row.s_id row.sf_type 0) (key_of s t 0) y book.facilities at other)

  -- what a row counts, before and then
  counted_row : (hour : ℕ) (row : CallForwardingRow)
      → one (covers row hour && has_active_facility (put_facility book s t y) row) + one ((x.is_active == 1) && (is_of s t row && covers row hour))
      ≡ one (covers row hour && has_active_facility book row) + one ((y.is_active == 1) && (is_of s t row && covers row hour))
  counted_row hour row = by_test (is_of s t row)
      (λ e. let same : key_of row.s_id row.sf_type 0 ≡ key_of s t 0 = grind (arith, nat_tests) in
      rw (active_here row same, active_before row same, e) (crosswise (covers row hour) (x.is_active == 1) (y.is_active == 1)))
      (λ e. let other : key_of row.s_id row.sf_type 0 ≢ key_of s t 0 = grind (arith, nat_tests) in
      rw (active_elsewhere row other, e) (elsewhere (x.is_active == 1) (y.is_active == 1) (one (covers row hour && has_active_facility book row))))

  -- so the counts of an hour differ by the facility's forwardings that cover it
  active_put : (hour : ℕ) → active_forwardings hour (put_facility book s t y) + (if x.is_active == 1 then that_cover s t hour book else 0)
      ≡ active_forwardings hour book + (if y.is_active == 1 then that_cover s t hour book else 0)
  unfolding active_forwardings
  active_put hour =
      let agree = sums_agree (λ (row : CallForwardingRow). ⊤)
      (λ (row : CallForwardingRow). one (covers row hour && has_active_facility (put_facility book s t y) row))
      (λ (row : CallForwardingRow). one ((x.is_active == 1) && (is_of s t row && covers row hour)))
      (λ (row : CallForwardingRow). one (covers row hour && has_active_facility book row))
      (λ (row : CallForwardingRow). one ((y.is_active == 1) && (is_of s t row && covers row hour)))
      (λ row any. counted_row hour row) book.forwardings (all_any book.forwardings) in
      let old = count_if (x.is_active == 1) (λ (row : CallForwardingRow). is_of s t row && covers row hour) book.forwardings in
      let new = count_if (y.is_active == 1) (λ (row : CallForwardingRow). is_of s t row && covers row hour) book.forwardings in
      omega (arith, agree, old, new)

  -- the zones stay
  zone_kept : (width z : ℕ) → y.s_id ≡ x.s_id → in_zone width z (put_facility book s t y) ≡ in_zone width z book
  unfolding in_zone
  zone_kept width z same =
      let counts = sum_by-with_row_at facility_key (λ (row : SpecialFacilityRow). one (zone_of width row.s_id == z)) (key_of s t 0) x y book.facilities found in
      let counts' = subst (λ (n : ℕ). sum_by (λ (row : SpecialFacilityRow). one (zone_of width row.s_id == z)) (with_row_at facility_key (key_of s t 0) y book.facilities) + one (zone_of width x.s_id == z)
      ≡ sum_by (λ (row : SpecialFacilityRow). one (zone_of width row.s_id == z)) book.facilities + one (zone_of width n == z)) same counts in
      omega arith

  -- a facility that stays as active as it was: nothing moves
  pub change_of_put_facility : (width : ℕ) → y.s_id ≡ x.s_id → y.is_active ≡ x.is_active → IsChange width book (put_facility book s t y) []
  change_of_put_facility width same stays =
      change_by_kinds width book (put_facility book s t y) []
      (λ c low. not_moved _ _ (as_active _ _ y.is_active x.is_active (that_cover s t c book) stays (active_put c)))
      (λ a below. rw (area-facilities a book (with_row_at facility_key (key_of s t 0) y book.facilities)) (not_moved _ _ refl))
      (λ z. rw (zone_kept width z same) (not_moved _ _ refl))

  -- a facility that is switched: each hour moves by how many of its forwardings cover it
  pub change_of_switch : (width : ℕ) (up : Bool) (spans : Spans) (notes : List (ℕ × ℤ)) → IsBook book → t < 256 → y.s_id ≡ x.s_id → (x.is_active == 1) ≡ not up → (y.is_active == 1) ≡ up
      → spans.from_0 ≡ until (forwarding_at book s t 0) → spans.from_8 ≡ until (forwarding_at book s t 8) → spans.from_16 ≡ until (forwarding_at book s t 16)
      → AreHours (span_amount up spans) FIRST_AREA notes → IsChange width book (put_facility book s t y) notes
  change_of_switch width up spans notes rules small same was now first second third are =
      change_by_kinds width book (put_facility book s t y) notes
      (λ c low. rw (hours_moved-low up spans c notes are low)
      (moved up (covering spans c) _ _ (rw (was, now, all_that_cover s t c book spans rules small first second third) at (active_put c))))
      (λ a below. rw (area-facilities a book (with_row_at facility_key (key_of s t 0) y book.facilities), hours_moved-high up spans (FIRST_AREA + a) notes are (omega arith)) (not_moved _ _ refl))
      (λ z. rw (zone_kept width z same, hours_moved-high up spans (FIRST_ZONE + z) notes are (omega arith)) (not_moved _ _ refl))
    where
      moved : (up : Bool) (n after before : ℕ) → after + (if not up then n else 0) ≡ before + (if up then n else 0) → pos after ≡ pos before +ℤ signed up n
      moved true n after before counts = moved_by true after before n (omega arith)
      moved false n after before counts = moved_by false after before n (omega arith)
