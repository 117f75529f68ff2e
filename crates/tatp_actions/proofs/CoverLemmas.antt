-- How many forwardings of a facility cover an hour: counted over the rows, and by those that are found by key.
use Rattle.tatp_actions.proofs.Common.{◌≡◌, ◌≢◌, refl, ◌∙◌, ap, ℕ, ◌+◌, ◌<◌, ◌==◌, ◌&&◌, nat_le, nat_lt, arith, Bool, true, false, List, [], ◌∷◌, Option, Some, None, inl, inr, if◌then◌else◌, count_by, ◌⊎◌, AllByRecursion, sum_by, option_map_or, nat_tests, sum_by-cons, by_test, absent_below, each-weaker, forwarding_ranges, key_of, forwarding_key, IsOrderedBy, row_at, CallForwardingRow, forwarding_in_range, Book, IsBook, forwarding_at, covers, in_span, covering, until, Spans}
use Rattle.tatp_actions.proofs.BookLemmas.{forwarding_found}
use Rattle.tatp_actions.proofs.ChangeLemmas.{one}

-- a number of the element at a key: it sums to that of the element that is found, and to 0 where there is none
sum_of_absent : {X : Type 0} (key f : X → ℕ) (k : ℕ) (xs : List X) → row_at key k xs ≡ None → sum_by (λ x. if key x == k then f x else 0) xs ≡ 0
sum_of_absent key f k [] absent = refl
sum_of_absent key f k (x ∷ xs) absent = grind (arith, nat_tests, sum_by-cons, sum_of_absent key f k xs)

sum_of_key : {X : Type 0} (key f : X → ℕ) (k : ℕ) (xs : List X) → IsOrderedBy key xs → sum_by (λ x. if key x == k then f x else 0) xs ≡ option_map_or f (row_at key k xs) 0
sum_of_key key f k [] ordered = refl
sum_of_key key f k (x ∷ xs) ordered =
    by_test (key x == k)
    (λ e. let same : key x ≡ k = grind (arith, nat_tests) in
    let rest = sum_of_absent key f k xs (absent_below key k xs (each-weaker {P = λ z. key x < key z} {Q = λ z. k < key z} (λ z below. omega arith) xs ordered.0)) in
    rw (sum_by-cons, e) (omega (arith, rest)))
    (λ e. rw (sum_by-cons, e) (omega (arith, sum_of_key key f k xs ordered.1)))

-- a number that is the sum of three others
sum_of_three : {X : Type 0} (P : X → Type 0) (f g h i : X → ℕ) → ((x : X) → P x → f x ≡ g x + h x + i x) → (xs : List X) → AllByRecursion P xs → sum_by f xs ≡ sum_by g xs + sum_by h xs + sum_by i xs
sum_of_three P f g h i is [] each = refl
sum_of_three P f g h i is (x ∷ xs) each =
    let here = is x each.0 in
    let rest = sum_of_three P f g h i is xs each.1 in
    rw (sum_by-cons f x xs, sum_by-cons g x xs, sum_by-cons h x xs, sum_by-cons i x xs) (omega arith)

-- a forwarding is of this facility
abbrev pub is_of : ℕ → ℕ → CallForwardingRow → Bool
is_of s t row = key_of row.s_id row.sf_type 0 == key_of s t 0

module _ (s t hour : ℕ) where
  -- what a row counts by its key, if it starts at an hour
  abbrev at_start : ℕ → CallForwardingRow → ℕ
  at_start u row = if forwarding_key row == key_of s t u then one (covers row hour) else 0

  -- a row of the facility starts at one of the three
  by_starts : (row : CallForwardingRow) → forwarding_in_range row ≡ true → one (is_of s t row && covers row hour) ≡ at_start 0 row + at_start 8 row + at_start 16 row
  by_starts row holds = by_test (is_of s t row)
      (λ e. let same : key_of row.s_id row.sf_type 0 ≡ key_of s t 0 = grind (arith, nat_tests) in rw e (starts (forwarding_ranges row holds).start_time_is same))
      (λ e. let other : key_of row.s_id row.sf_type 0 ≢ key_of s t 0 = grind (arith, nat_tests) in
      let below = (forwarding_ranges row holds).start_time_below in
      rw (e, unequal 0 row (λ h. other (omega arith)), unequal 8 row (λ h. other (omega arith)), unequal 16 row (λ h. other (omega arith))) refl)
    where
      equal : (u : ℕ) (row : CallForwardingRow) → forwarding_key row ≡ key_of s t u → (forwarding_key row == key_of s t u) ≡ true
      equal u row same = grind (arith, nat_tests)

      unequal : (u : ℕ) (row : CallForwardingRow) → forwarding_key row ≢ key_of s t u → (forwarding_key row == key_of s t u) ≡ false
      unequal u row other = grind (arith, nat_tests)

      starts : (row.start_time ≡ 0) ⊎ ((row.start_time ≡ 8) ⊎ (row.start_time ≡ 16)) → key_of row.s_id row.sf_type 0 ≡ key_of s t 0 → one (covers row hour) ≡ at_start 0 row + at_start 8 row + at_start 16 row
      starts (inl is) same = rw (equal 0 row (omega arith), unequal 8 row (λ h. omega arith), unequal 16 row (λ h. omega arith)) (omega arith)
      starts (inr (inl is)) same = rw (unequal 0 row (λ h. omega arith), equal 8 row (omega arith), unequal 16 row (λ h. omega arith)) (omega arith)
      starts (inr (inr is)) same = rw (unequal 0 row (λ h. omega arith), unequal 8 row (λ h. omega arith), equal 16 row (omega arith)) (omega arith)

  -- a forwarding that is found covers the hours from its start until it ends
  found_covers : (book : Book) (u : ℕ) → IsBook book → t < 256 → u < 256 → (o : Option CallForwardingRow) → forwarding_at book s t u ≡ o → option_map_or (λ (row : CallForwardingRow). one (covers row hour)) o 0 ≡ in_span u (until o) hour
  found_covers book u rules small small' None found = let e : (nat_le u hour && nat_lt hour 0) ≡ false = grind (arith, nat_tests) in rw e refl
  found_covers book u rules small small' (Some row) found =
      let start : row.start_time ≡ u = (forwarding_found book s t u row rules small small' found).2 in
      ap (λ (n : ℕ). one (nat_le n hour && nat_lt hour row.end_time)) start

  at_key : (book : Book) (u : ℕ) → IsBook book → t < 256 → u < 256 → sum_by (at_start u) book.forwardings ≡ in_span u (until (forwarding_at book s t u)) hour
  at_key book u rules small small' =
      sum_of_key forwarding_key (λ (row : CallForwardingRow). one (covers row hour)) (key_of s t u) book.forwardings rules.forwardings_ordered
      ∙ found_covers book u rules small small' (forwarding_at book s t u) refl

  -- so those that are found by key are all that cover it
  pub all_that_cover : (book : Book) (spans : Spans) → IsBook book → t < 256
      → spans.from_0 ≡ until (forwarding_at book s t 0) → spans.from_8 ≡ until (forwarding_at book s t 8) → spans.from_16 ≡ until (forwarding_at book s t 16)
      → count_by (λ (row : CallForwardingRow). is_of s t row && covers row hour) book.forwardings ≡ covering spans hour
  all_that_cover book spans rules small first second third =
      let all = sum_of_three (λ (row : CallForwardingRow). forwarding_in_range row ≡ true) (λ (row : CallForwardingRow). one (is_of s t row && covers row hour)) (at_start 0) (at_start 8) (at_start 16) by_starts book.forwardings rules.forwardings_in_range in
      let at_0 = at_key book 0 rules small (omega arith) in
      let at_8 = at_key book 8 rules small (omega arith) in
      let at_16 = at_key book 16 rules small (omega arith) in
      rw (first, second, third) (omega arith)
