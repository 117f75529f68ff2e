-- Each s_id lies in one of the regions.
use Rattle.part_table.proofs.Common.{◌≡◌, ◌∙◌, refl, ap, ℕ, zero, suc, ◌+◌, ◌<◌, ◌≤◌, List, [], ◌∷◌, length, get_or, true, false, arith, inl, inr, Some, None, count_by, cond, find, position, position_or_len, nat_tests, cases_lt, position-Some, sum_by-cons, by_test, ends_behind, lies_in, IsConsecutive, place_of, Part, Region, END}
use Rattle.part_table.proofs.FirstLemmas.{find_none}

-- what a list of regions has behind its end
abbrev pub blank : Region
blank = record { lo = 0; hi = 0; place = Part 0 }

-- an s_id in front of regions lies in none of them
pub none_before : (s_id from : ℕ) (regions : List Region) → s_id < from → IsConsecutive from regions → count_by (lies_in s_id) regions ≡ 0
none_before s_id from [] below consecutive = refl
none_before s_id from (region ∷ regions) below consecutive =
    let begins = consecutive.0 in
    let some = consecutive.1 in
    let outside : lies_in s_id region ≡ false = grind (arith, nat_tests) in
    let rest = none_before s_id region.hi regions (omega arith) consecutive.2 in
    sum_by-cons (λ r. cond (lies_in s_id r) 1 0) region regions ∙ rw outside (omega (arith, rest))

-- any other lies in one
pub one_of_regions : (s_id from : ℕ) (regions : List Region) → from ≤ s_id → s_id < END → IsConsecutive from regions → count_by (lies_in s_id) regions ≡ 1
one_of_regions s_id from [] above below consecutive = absurd (omega arith)
one_of_regions s_id from (region ∷ regions) above below consecutive =
    let begins = consecutive.0 in
    sum_by-cons (λ r. cond (lies_in s_id r) 1 0) region regions ∙ elim (cases_lt s_id region.hi) [
      | inl inside ↦
          let here : lies_in s_id region ≡ true = grind (arith, nat_tests) in
          rw here (let rest = none_before s_id region.hi regions inside consecutive.2 in omega (arith, rest))
      | inr behind ↦
          let outside : lies_in s_id region ≡ false = grind (arith, nat_tests) in
          rw outside (let rest = one_of_regions s_id region.hi regions behind below consecutive.2 in omega (arith, rest))
    ]

-- and somebody holds it
pub some_place : (s_id from : ℕ) (regions : List Region) → from ≤ s_id → s_id < END → IsConsecutive from regions → place_of s_id regions ≡ None → ⊥
some_place s_id from [] above below consecutive none = omega arith
some_place s_id from (region ∷ regions) above below consecutive none =
    let begins = consecutive.0 in
    by_test (lies_in s_id region)
    (λ e. let found : Some region.place ≡ None = rw e at none in cc)
    (λ e. some_place s_id region.hi regions (grind (arith, nat_tests)) below consecutive.2 (rw e at none))

-- so one of the regions is found
pub some_index : (s_id : ℕ) (regions : List Region) → 1 ≤ s_id → s_id < END → IsConsecutive 1 regions → position (lies_in s_id) regions ≡ None → ⊥
some_index s_id regions above below consecutive none = some_place s_id 1 regions above below consecutive (nowhere regions (find_none (lies_in s_id) regions none))
  where
    nowhere : (others : List Region) → find (lies_in s_id) others ≡ None → place_of s_id others ≡ None
    nowhere [] missing = refl
    nowhere (region ∷ others) missing =
        by_test (lies_in s_id region)
        (λ e. let found : Some region ≡ None = rw e at missing in absurd cc)
        (λ e. rw e (nowhere others (rw e at missing)))

-- an s_id lies in the first that ends behind it
pub first_behind : (s_id from : ℕ) (regions : List Region) → IsConsecutive from regions → from ≤ s_id → position (lies_in s_id) regions ≡ position (ends_behind s_id) regions
first_behind s_id from regions consecutive above = rw (same from regions consecutive above) refl
  where
    same : (at : ℕ) (others : List Region) → IsConsecutive at others → at ≤ s_id → position_or_len (lies_in s_id) others ≡ position_or_len (ends_behind s_id) others
    same at [] follow low = refl
    same at (region ∷ others) follow low =
        let begins = follow.0 in
        elim (cases_lt s_id region.hi) [
          | inl inside ↦
              let here : lies_in s_id region ≡ true = grind (arith, nat_tests) in
              let ends : ends_behind s_id region ≡ true = grind (arith, nat_tests) in
              rw (here, ends) refl
          | inr behind ↦
              let outside : lies_in s_id region ≡ false = grind (arith, nat_tests) in
              let passed : ends_behind s_id region ≡ false = grind (arith, nat_tests) in
              rw (outside, passed) (ap (λ n. 1 + n) (same region.hi others follow.2 behind))
        ]

-- and its place is theirs
place_here : (s_id : ℕ) (regions : List Region) (i : ℕ) (d : Region) → i < length regions → lies_in s_id (get_or regions i d) ≡ true → ((k : ℕ) → k < i → lies_in s_id (get_or regions k d) ≡ false)
    → place_of s_id regions ≡ Some (get_or regions i d).place
place_here s_id [] i d within here before = absurd (omega arith)
place_here s_id (region ∷ regions) zero d within here before = rw here refl
place_here s_id (region ∷ regions) (suc i) d within here before =
    let e : lies_in s_id region ≡ false = before 0 (omega arith) in
    rw e (place_here s_id regions i d (omega arith) here (λ k below. before (suc k) (omega arith)))

pub place_at : (s_id : ℕ) (regions : List Region) (i : ℕ) (d : Region) → position (lies_in s_id) regions ≡ Some i → place_of s_id regions ≡ Some (get_or regions i d).place
place_at s_id regions i d index = let here = position-Some (lies_in s_id) regions i d index in place_here s_id regions i d here.0 here.1 here.2
