-- Where a search among rising keys stops.
use Rattle.mr_node.proofs.Common.{◌≡◌, ℕ, ◌+◌, ◌-◌, ◌*◌, ◌<◌, ◌≤◌, suc, zero, List, length, get_or, min, cond, ltb, true, false, Option, sym, ap, subst, ◌∙◌, arith, inl, inr, cases_lt, nat_tests, IsOrderedBy, key_of_pair, key_limit, KeysBelow, no_key, entries, AreEntries, IsRising, IsStop, IsChildPlace}
use Rattle.mr_node.proofs.EntryListLemmas.{entries_behind, entries_below, entries_rises}

-- the sum of the first n
abbrev pub sum_to : (ℕ → ℕ) → ℕ → ℕ
sum_to t zero = 0
sum_to t (suc n) = sum_to t n + t n

-- m of the first n are 1, and they stand in front
pub record AreOnes (t : ℕ → ℕ) (m n : ℕ) : Type 0 where
  pub within : m ≤ n
  pub ones : (i : ℕ) → i < m → t i ≡ 1
  pub zeros : (i : ℕ) → m ≤ i → i < n → t i ≡ 0

one_more : (t : ℕ → ℕ) (m n : ℕ) → t n ≤ 1 → ((i : ℕ) → i ≤ n → t n ≤ t i) → ((i : ℕ) → i ≤ n → t i ≤ 1) → AreOnes t m n → AreOnes t (m + t n) (suc n)
one_more t m n small falls each h = elim (cases_lt (t n) 1) [
  | inl none ↦ record {
    within = omega (arith, none, h.within);
    ones = λ i lt. h.ones i (omega (arith, none, lt));
    zeros = λ i le lt. elim (cases_lt i n) [
      | inl front ↦ h.zeros i (omega (arith, none, le)) front
      | inr back ↦ let same : i ≡ n = omega (arith, back, lt) in ap t same ∙ omega (arith, none)
    ];
  }
  | inr one ↦
      let all : m ≡ n = elim (cases_lt m n) [
        | inl front ↦ absurd (omega (arith, h.zeros m (omega arith) front, falls m (omega (arith, front)), one))
        | inr back ↦ omega (arith, back, h.within)
      ] in
      record {
        within = omega (arith, small, h.within);
        ones = λ i lt. omega (arith, falls i (omega (arith, lt, all, small)), each i (omega (arith, lt, all, small)), one);
        zeros = λ i le lt. absurd (omega (arith, le, lt, all, one));
      }
]

-- falling bits: their sum says where they fall
pub ones_of : (t : ℕ → ℕ) (n : ℕ) → ((i j : ℕ) → i ≤ j → j < n → t j ≤ t i) → ((i : ℕ) → i < n → t i ≤ 1) → AreOnes t (sum_to t n) n
ones_of t zero falls small = record { within = omega arith; ones = λ i lt. absurd (omega (arith, lt)); zeros = λ i le lt. absurd (omega (arith, lt)) }
ones_of t (suc n) falls small =
    one_more t (sum_to t n) n (small n (omega arith)) (λ i le. falls i n le (omega arith)) (λ i le. small i (omega (arith, le)))
    (ones_of t n (λ i j le lt. falls i j le (omega (arith, lt))) (λ i lt. small i (omega (arith, lt))))

-- 1 where a number is less than a key
abbrev bit : ℕ → ℕ → ℕ
bit n key = cond (ltb n key) 1 0

-- 1 where the key at a place is less
abbrev pub less_at : ℕ → List ℕ → ℕ → ℕ
less_at key ks i = bit (get_or ks i 0) key

less : (x y : ℕ) → x < y → ltb x y ≡ true
less x y h = grind (arith, nat_tests)

not_less : (x y : ℕ) → y ≤ x → ltb x y ≡ false
not_less x y h = grind (arith, nat_tests)

bit_small : (a key : ℕ) → bit a key ≤ 1
bit_small a key = elim (cases_lt a key) [ inl lt ↦ rw (less a key lt) (omega arith) | inr ge ↦ rw (not_less a key ge) (omega arith) ]

bit_falls : (a b key : ℕ) → a ≤ b → bit b key ≤ bit a key
bit_falls a b key le = elim (cases_lt b key) [
  | inl lt ↦ rw (less b key lt, less a key (omega (arith, le, lt))) (omega arith)
  | inr ge ↦ rw (not_less b key ge) (omega arith)
]

bit_one : (a key : ℕ) → bit a key ≡ 1 → a < key
bit_one a key h = elim (cases_lt a key) [ inl lt ↦ lt | inr ge ↦ absurd (omega (arith, h, ap {B = ℕ} (λ b. cond b 1 0) (not_less a key ge))) ]

bit_none : (a key : ℕ) → bit a key ≡ 0 → key ≤ a
bit_none a key h = elim (cases_lt a key) [ inl lt ↦ absurd (omega (arith, h, ap {B = ℕ} (λ b. cond b 1 0) (less a key lt))) | inr ge ↦ ge ]

-- looks at places that rise
abbrev pub looks : ℕ → List ℕ → (ℕ → ℕ) → ℕ → ℕ
looks key ks place i = less_at key ks (place i)

looked : (key : ℕ) (ks : List ℕ) (place : ℕ → ℕ) (n : ℕ) → IsRising ks → ((i j : ℕ) → i ≤ j → j < n → place i ≤ place j) → ((i : ℕ) → i < n → place i < length ks) → AreOnes (looks key ks place) (sum_to (looks key ks place) n) n
looked key ks place n rising rises within =
    ones_of (looks key ks place) n
    (λ i j le lt. bit_falls (get_or ks (place i) 0) (get_or ks (place j) 0) key (rising (place i) (place j) (rises i j le lt) (within j lt)))
    (λ i lt. bit_small (get_or ks (place i) 0) key)

-- the seven looks that stand four places apart
pub record IsFour (key m : ℕ) (ks : List ℕ) : Type 0 where
  pub within : m < 8
  pub before : 0 < m → get_or ks (4 * m - 1) 0 < key
  pub next : m < 7 → key ≤ get_or ks (4 * m + 3) 0

pub four_of : (key m : ℕ) (ks : List ℕ) → length ks ≡ 32 → IsRising ks → m ≡ sum_to (looks key ks (λ i. 4 * i + 3)) 7 → IsFour key m ks
four_of key m ks long rising e =
    let all = subst (λ j. AreOnes (looks key ks (λ i. 4 * i + 3)) j 7) (sym e) (looked key ks (λ i. 4 * i + 3) 7 rising (λ i j le lt. omega (arith, le)) (λ i lt. omega (arith, lt, long))) in
    record {
      within = omega (arith, all.within);
      before = λ some. subst (λ j. get_or ks j 0 < key) (omega (arith, some)) (bit_one (get_or ks (4 * (m - 1) + 3) 0) key (all.ones (m - 1) (omega (arith, some))));
      next = λ lt. bit_none (get_or ks (4 * m + 3) 0) key (all.zeros m (omega arith) lt);
    }

-- and the four places between
pub stop_of : (key m r : ℕ) (ks : List ℕ) → length ks ≡ 32 → IsRising ks → IsFour key m ks → r ≡ 4 * m + sum_to (looks key ks (λ i. 4 * m + i)) 4 → IsStop key r ks
stop_of key m r ks long rising four e =
    let s = sum_to (looks key ks (λ i. 4 * m + i)) 4 in
    let all = looked key ks (λ i. 4 * m + i) 4 rising (λ i j le lt. omega (arith, le)) (λ i lt. omega (arith, lt, long, four.within)) in
    record {
      within = omega (arith, e, all.within, four.within, long);
      before = λ some. elim (cases_lt 0 s) [
        | inl lt ↦ subst (λ j. get_or ks j 0 < key) (omega (arith, lt, e)) (bit_one (get_or ks (4 * m + (s - 1)) 0) key (all.ones (s - 1) (omega (arith, lt))))
        | inr none ↦ subst (λ j. get_or ks j 0 < key) (omega (arith, none, e)) (four.before (omega (arith, none, e, some)))
      ];
      here = λ lt. elim (cases_lt s 4) [
        | inl less ↦ subst (λ j. key ≤ get_or ks j 0) (sym e) (bit_none (get_or ks (4 * m + s) 0) key (all.zeros s (omega arith) less))
        | inr full ↦ absurd (omega (arith, four.next (omega (arith, full, all.within, e, lt, long)), bit_one (get_or ks (4 * m + 3) 0) key (all.ones 3 (omega (arith, full)))))
      ];
    }

-- the place of a child, from the number of least keys that are not above the key
pub child_placed : {X : Type 0} (key least n r : ℕ) (ks : List ℕ) (ps : List (Option X)) → length ks ≡ 32 → 0 < n → AreEntries n ks ps → IsOrderedBy key_of_pair (entries ks ps) → KeysBelow key_limit (entries ks ps) → least ≡ min (key + 1) no_key → IsStop least r ks → IsChildPlace key (r - 1) n ks
child_placed key least n r ks ps long some are_entries ordered below e stop =
    let few : r ≤ n = elim (cases_lt n r) [
      | inl more ↦ absurd (omega (arith, stop.before (omega (arith, more)), entries_behind n (r - 1) ks ps are_entries (omega (arith, more)) (omega (arith, more, stop.within)), e))
      | inr le ↦ le
    ] in
    record {
      within = omega (arith, few, some);
      here = λ front. omega (arith, stop.before (omega (arith, front)), e);
      next = λ more. elim (cases_lt 0 r) [
        | inl lt ↦
            let same : r - 1 + 1 ≡ r = omega (arith, lt) in
            subst (λ j. key < get_or ks j 0) (sym same) (omega (arith, stop.here (omega (arith, same, more, are_entries.fits, long)), e, entries_below n r ks ps are_entries below (omega (arith, same, more))))
        | inr none ↦
            let front : get_or ks r 0 ≡ get_or ks 0 0 = ap (λ j. get_or ks j 0) (omega (arith, none)) in
            omega (arith, stop.here (omega (arith, none, long)), front, e, entries_below n 0 ks ps are_entries below some, entries_rises n ks ps are_entries ordered below 0 (r - 1 + 1) (omega arith) (omega (arith, more, are_entries.fits, long)))
      ];
    }

-- and from the least keys on both sides
pub child_between : {X : Type 0} (key n i : ℕ) (ks : List ℕ) (ps : List (Option X)) → length ks ≡ 32 → AreEntries n ks ps → (i < 31) × (get_or ks i 0 ≤ key) × (key < get_or ks (i + 1) 0) → IsChildPlace key i n ks
child_between key n i ks ps long are_entries at = record {
  within = elim (cases_lt i n) [
    | inl lt ↦ lt
    | inr past ↦ absurd (omega (arith, at.1, at.2, entries_behind n i ks ps are_entries past (omega (arith, long, at.0)), entries_behind n (i + 1) ks ps are_entries (omega (arith, past)) (omega (arith, long, at.0))))
  ];
  here = λ front. at.1;
  next = λ more. at.2;
}
