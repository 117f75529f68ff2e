-- The rows of a group lie in four places, whose keys rise.
use Rattle.group_tree.proofs.Common.{◌≡◌, refl, ap, subst, ℕ, zero, suc, ◌+◌, ◌<◌, ◌≤◌, ◌==◌, nat_lt, nat_le, true, false, List, [], ◌∷◌, ◌++◌, length, Option, Some, None, length-append, arith, nat_tests, AllByRecursion, AllFrom, each-weaker, filter_all, by_test, keys_below, IsOrderedBy, row_at, row_at-absent, HaveLaws, KeysBelow, KeysFrom, key_of_pair}
use Rattle.std.specs.Option.{option_to_list}
use Rattle.tatp_rows.proofs.HalfLemmas.{below_none}

module _ {R : Type 0} where
  -- no row lies between a key and the next one
  abbrev HaveGap : ℕ → ℕ → List (ℕ × R) → Type 0
  HaveGap key next rows = AllByRecursion (λ p. key < p.0 → next ≤ p.0) rows

  -- rows behind one that isn't below the key aren't below the next one
  behind_first : (key next : ℕ) (p : ℕ × R) (rows : List (ℕ × R)) → key ≤ p.0 → AllByRecursion (λ q. p.0 < q.0) rows → HaveGap key next rows → AllFrom key_of_pair next rows
  behind_first key next p [] at above gap = tt
  behind_first key next p (q ∷ rows) at above gap = (gap.0 (omega (arith, at, above.0)), behind_first key next p rows at above.1 gap.1)

  -- the rows below the next key are those below a key, and the one at it
  next_below : (key next : ℕ) (rows : List (ℕ × R)) → key < next → IsOrderedBy key_of_pair rows → HaveGap key next rows → keys_below key_of_pair next rows ≡ keys_below key_of_pair key rows ++ option_to_list (row_at key_of_pair key rows)
  next_below key next [] less ordered gap = refl
  next_below key next (p ∷ rows) less ordered gap =
      by_test (nat_lt p.0 key)
      (λ front.
      let also : nat_lt p.0 next ≡ true = grind (arith, nat_tests) in
      let other : (p.0 == key) ≡ false = grind (arith, nat_tests) in
      rw (front, also, other) (ap (λ rest. p ∷ rest) (next_below key next rows less ordered.1 gap.1)))
      (λ not_front.
      let from : key ≤ p.0 = grind (arith, nat_tests) in
      let behind = behind_first key next p rows from ordered.0 gap.1 in
      let before = each-weaker {P = λ q. next ≤ key_of_pair q} {Q = λ q. key ≤ key_of_pair q} (λ q least. omega arith) rows behind in
      by_test (p.0 == key)
      (λ here.
      let also : nat_lt p.0 next ≡ true = grind (arith, nat_tests) in
      rw (not_front, also, here, below_none key_of_pair next rows behind, below_none key_of_pair key rows before) refl)
      (λ other.
      let far : next ≤ p.0 = gap.0 (grind (arith, nat_tests)) in
      let not_also : nat_lt p.0 next ≡ false = grind (arith, nat_tests) in
      rw (not_front, not_also, other, below_none key_of_pair next rows behind, below_none key_of_pair key rows before, row_at-absent key_of_pair key rows (each-weaker {P = λ q. next ≤ key_of_pair q} {Q = λ q. key + 1 ≤ key_of_pair q} (λ q least. omega arith) rows behind)) refl))

module _ {G R : Type 0} {listed : ℕ → G → List (ℕ × R)} {Holds : ℕ → G → Type 0} {span : ℕ} {key_in : ℕ → ℕ → ℕ} (laws : HaveLaws listed Holds span key_in) where
  -- the key of a place isn't higher than that of a later one
  not_higher : (base low high : ℕ) → low ≤ high → key_in base low ≤ key_in base high
  not_higher base low zero up = let e : low ≡ 0 = omega arith in rw e (omega arith)
  not_higher base low (suc high) up =
      by_test (nat_le low high)
      (λ t. let before = not_higher base low high (grind (arith, nat_tests)) in let step = laws.rising base high in omega arith)
      (λ t. let e : low ≡ suc high = grind (arith, nat_tests) in rw e (omega arith))

  module _ (base : ℕ) (group : G) (holds : Holds base group) where
    -- the rows of a group lie in its span
    pub from_base : KeysFrom base (listed base group)
    from_base = each-weaker (λ p at. let low = not_higher base 0 at.0 (omega arith) in let first = laws.from base in omega (arith, at.2)) (listed base group) (laws.rules base group holds).each

    pub below_span : KeysBelow (base + span) (listed base group)
    below_span = each-weaker (λ p at. let high = not_higher base at.0 3 (omega (arith, at.1)) in let last = laws.below base in omega (arith, at.2)) (listed base group) (laws.rules base group holds).each

    -- the rows in the places in front of one
    abbrev pub first_rows : ℕ → List (ℕ × R)
    first_rows place = keys_below key_of_pair (key_in base place) (listed base group)

    pub no_first : first_rows 0 ≡ []
    no_first = below_none key_of_pair (key_in base 0) (listed base group) (each-weaker (λ p at. let low = not_higher base 0 at.0 (omega arith) in omega (arith, at.2)) (listed base group) (laws.rules base group holds).each)

    all_first : first_rows 4 ≡ listed base group
    all_first =
        filter_all _ (listed base group)
        (each-weaker (λ p at. let high = not_higher base at.0 3 (omega (arith, at.1)) in let last = laws.rising base 3 in let less : p.0 < key_in base 4 = omega (arith, at.2) in grind (arith, nat_tests)) (listed base group) (laws.rules base group holds).each)

    pub all_rows : (place : ℕ) → place ≤ 4 → 4 ≤ place → first_rows place ≡ listed base group
    all_rows place end out = let all : place ≡ 4 = omega arith in rw all all_first

    pub next_first : (place : ℕ) → first_rows (place + 1) ≡ first_rows place ++ option_to_list (row_at key_of_pair (key_in base place) (listed base group))
    next_first place =
        let one : place + 1 ≡ suc place = omega arith in
        let rules = laws.rules base group holds in
        rw one (next_below (key_in base place) (key_in base (suc place)) (listed base group) (laws.rising base place) rules.ordered (each-weaker gap (listed base group) rules.each))
      where
        gap : (p : ℕ × R) → (n : ℕ) × (n < 4) × (p.0 ≡ key_in base n) → key_in base place < p.0 → key_in base (suc place) ≤ p.0
        gap p at less =
            by_test (nat_le (suc place) at.0)
            (λ t. let up = not_higher base (suc place) at.0 (grind (arith, nat_tests)) in omega (arith, at.2))
            (λ t. let low : at.0 ≤ place = grind (arith, nat_tests) in let down = not_higher base at.0 place low in absurd (omega (arith, at.2)))

    -- so there are four at most
    pub few_first : (place : ℕ) → length (first_rows place) ≤ place
    few_first zero = rw no_first (omega arith)
    few_first (suc place) =
        let one : place + 1 ≡ suc place = omega arith in
        let step = rw one at (next_first place) in
        rw step (omega (arith, few_first place, few_found (row_at key_of_pair (key_in base place) (listed base group)), length-append (first_rows place) (option_to_list (row_at key_of_pair (key_in base place) (listed base group)))))
      where
        few_found : {X : Type 0} (found : Option X) → length (option_to_list found) ≤ 1
        few_found None = omega arith
        few_found (Some x) = omega arith

    pub four_rows : length (listed base group) ≤ 4
    four_rows = subst (λ l. length l ≤ 4) all_first (few_first 4)
