-- The numbers that a call is forwarded to, from the group of a facility's forwardings.
use Rattle.tatp_actions.proofs.Common.{◌≡◌, refl, sym, ◌∙◌, ap, ℕ, ◌+◌, ◌<◌, ◌≤◌, ◌==◌, ◌&&◌, arith, true, false, Bool, List, [], ◌∷◌, map, Option, Some, None, IfSome, option_map, nat_le, nat_lt, if◌then◌else◌, filter, nat_tests, by_test, both, both_from, each-unmap, each_from_two, AllByRecursion, Bor, key_of_pair, key_of, forwarding_key, forwarding_ranges, CallForwardingRow, SpecialFacilityRow, forwarding_in_range, keys_below, keys_from, takes_call, destinations, Book, IsBook, facility_at, has_active, IsKeyed, values_of, numbers_in, is_in_time, base_of, rows_beside, rows_in, facility_span, forwardings_listed, s_id_in, type_in}

-- what is kept of the rows with keys from one up to another is what is kept of all, if no other is kept
kept_within : {X : Type 0} (test : X → Bool) (low high : ℕ) (pairs : List (ℕ × X)) → AllByRecursion (λ pair. test pair.1 ≡ true → (low ≤ pair.0) × (pair.0 < high)) pairs
    → filter test (values_of (keys_below key_of_pair high (keys_from key_of_pair low pairs))) ≡ filter test (values_of pairs)
kept_within test low high [] each = refl
kept_within test low high (pair ∷ pairs) each =
    let rest = kept_within test low high pairs each.1 in
    by_test (test pair.1)
    (λ kept.
    let within = each.0 kept in
    let least = within.0 in
    let most = within.1 in
    let from : nat_le low pair.0 ≡ true = grind (arith, nat_tests) in
    let below : nat_lt pair.0 high ≡ true = grind (arith, nat_tests) in
    rw (from, below, kept) (ap (λ rows. pair.1 ∷ rows) rest))
    (λ gone. by_test (nat_le low pair.0) (λ from. by_test (nat_lt pair.0 high) (λ below. rw (from, below, gone) rest) (λ behind. rw (from, behind, gone) rest)) (λ before. rw (before, gone) rest))

-- a forwarding that takes a call has a key of its facility
takes_within : (s t a e low : ℕ) → low ≡ key_of s t 0 → (k : ℕ) (row : CallForwardingRow) → k ≡ forwarding_key row → forwarding_in_range row ≡ true → takes_call s t a e row ≡ true → (low ≤ k) × (k < low + facility_span)
takes_within s t a e low at k row is holds takes =
    let first = (both (row.s_id == s && row.sf_type == t) (nat_le row.start_time a && nat_lt e row.end_time) takes).0 in
    let own = both (row.s_id == s) (row.sf_type == t) first in
    let s_is : row.s_id ≡ s = equal row.s_id s own.0 in
    let t_is : row.sf_type ≡ t = equal row.sf_type t own.1 in
    let start = (forwarding_ranges row holds).start_time_below in
    (omega arith, omega arith)
  where
    equal : (m n : ℕ) → (m == n) ≡ true → m ≡ n
    equal m n same = grind (arith, nat_tests)

-- a call is taken by the forwardings of a group that are in time
group_kept : (s t a e base : ℕ) → s_id_in base ≡ s → type_in base ≡ t → (group : List CallForwardingRow)
    → map (λ (row : CallForwardingRow). row.numberx) (filter (is_in_time a e) group) ≡ map (λ (row : CallForwardingRow). row.numberx) (filter (takes_call s t a e) (values_of (forwardings_listed base group)))
group_kept s t a e base s_is t_is [] = refl
group_kept s t a e base s_is t_is (row ∷ group) =
    let rest = group_kept s t a e base s_is t_is group in
    let own : (s_id_in base == s && type_in base == t) ≡ true = both_from (s_id_in base == s) (type_in base == t) (equal (s_id_in base) s s_is) (equal (type_in base) t t_is) in
    by_test (nat_le row.start_time a && nat_lt e row.end_time) (λ kept. rw (own, kept) (ap (λ numbers. row.numberx ∷ numbers) rest)) (λ gone. rw (own, gone) rest)
  where
    equal : (m n : ℕ) → m ≡ n → (m == n) ≡ true
    equal m n same = grind (arith, nat_tests)

-- so the numbers in the group of a facility are those of all its forwardings that take the call
module _ (book : Book) (pairs : List (ℕ × CallForwardingRow)) (s t a e key : ℕ) (group : Option (List CallForwardingRow)) (rules : IsBook book) (are : values_of pairs ≡ book.forwardings)
    (keyed : IsKeyed forwarding_key pairs) (at : key ≡ key_of s t 0) (small : t < 256) (found : rows_in forwardings_listed (base_of facility_span key) group ≡ rows_beside facility_span key pairs) where
  group_numbers : numbers_in a e group ≡ map (λ (row : CallForwardingRow). row.numberx) (filter (takes_call s t a e) book.forwardings)
  group_numbers =
      let low : base_of facility_span key ≡ key_of s t 0 = omega arith in
      let s_is : s_id_in (base_of facility_span key) ≡ s = omega arith in
      let t_is : type_in (base_of facility_span key) ≡ t = omega arith in
      let within = each_from_two {P = λ (pair : ℕ × CallForwardingRow). pair.0 ≡ forwarding_key pair.1} {Q = λ (pair : ℕ × CallForwardingRow). forwarding_in_range pair.1 ≡ true}
      (λ pair is holds takes. takes_within s t a e (base_of facility_span key) low pair.0 pair.1 is holds takes) pairs keyed
      (each-unmap (λ (pair : ℕ × CallForwardingRow). pair.1) (λ (row : CallForwardingRow). forwarding_in_range row ≡ true) pairs (rw are rules.forwardings_in_range)) in
      by_group s_is t_is group
      ∙ ap (λ rows. map (λ (row : CallForwardingRow). row.numberx) (filter (takes_call s t a e) (values_of rows))) found
      ∙ ap (map (λ (row : CallForwardingRow). row.numberx)) (kept_within (takes_call s t a e) (base_of facility_span key) (base_of facility_span key + facility_span) pairs within)
      ∙ ap (λ rows. map (λ (row : CallForwardingRow). row.numberx) (filter (takes_call s t a e) rows)) are
    where
      by_group : s_id_in (base_of facility_span key) ≡ s → type_in (base_of facility_span key) ≡ t → (o : Option (List CallForwardingRow))
          → numbers_in a e o ≡ map (λ (row : CallForwardingRow). row.numberx) (filter (takes_call s t a e) (values_of (rows_in forwardings_listed (base_of facility_span key) o)))
      by_group s_is t_is None = refl
      by_group s_is t_is (Some rows) = group_kept s t a e (base_of facility_span key) s_is t_is rows

  -- and the destinations, if the facility is active
  pub group_destinations : (o : Option SpecialFacilityRow) (numbers : List ℕ) → o ≡ facility_at book s t → numbers ≡ (if has_active o then numbers_in a e group else []) → numbers ≡ destinations book s t a e
  group_destinations o numbers is gathered =
      gathered ∙ ap (λ (ns : List ℕ). if has_active o then ns else []) group_numbers
      ∙ ap (λ (facility : Option SpecialFacilityRow). if has_active facility then map (λ (row : CallForwardingRow). row.numberx) (filter (takes_call s t a e) book.forwardings) else []) is

  pub active_destinations : (o : Option SpecialFacilityRow) (numbers : List ℕ) → o ≡ facility_at book s t → has_active o ≡ true → numbers ≡ numbers_in a e group → numbers ≡ destinations book s t a e
  active_destinations o numbers is active gathered = group_destinations o numbers is (rw active gathered)

-- there is none if the facility isn't active
pub idle_destinations : (book : Book) (s t a e : ℕ) (o : Option SpecialFacilityRow) (numbers : List ℕ) → o ≡ facility_at book s t → has_active o ≡ false → numbers ≡ [] → numbers ≡ destinations book s t a e
idle_destinations book s t a e o numbers is idle none = none ∙ rw (← is, idle) refl

-- a group that was lent has all rows of its span
pub lent_rows : (key : ℕ) (pairs : List (ℕ × CallForwardingRow)) (lent : Option (Bor (List CallForwardingRow))) → IfSome lent (λ group. forwardings_listed (base_of facility_span key) group.now ≡ rows_beside facility_span key pairs)
    → (lent ≡ None → rows_beside facility_span key pairs ≡ []) → rows_in forwardings_listed (base_of facility_span key) (option_map (λ group. group.now) lent) ≡ rows_beside facility_span key pairs
lent_rows key pairs None found none = sym (none refl)
lent_rows key pairs (Some group) found none = found
