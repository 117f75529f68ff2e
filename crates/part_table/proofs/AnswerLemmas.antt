-- The answers of a re-cut, one after another.
use Rattle.part_table.proofs.Common.{◌≡◌, ◌≢◌, ◌∙◌, refl, ap, ℕ, ◌+◌, ◌<◌, ◌≤◌, List, [], ◌∷◌, ◌++◌, true, false, length, arith, ◌==◌, nat_lt, count_by, Ok, Err, nat_tests, nil_from_length, by_test, Field, Moving, are_rising, parts_between, bounds_of, rising_moves, falling_moves, recut_answer, all_moved, is_of_part, AreRegions, parts_of, pieces_of, Region}
use Rattle.part_table.proofs.BoundsLemmas.{parts_alone, rising-bounds_of}
use Rattle.part_table.proofs.MoveLemmas.{length_bounds, length_moves}
use Rattle.part_table.proofs.NumberLemmas.{count_parts, length_regions}
use Rattle.part_table.proofs.RecutLemmas.{moves_done}

module _ (regions : List Region) (bounds : List ℕ) (parts : ℕ) (counted : parts ≡ count_by is_of_part regions) where
  count : parts ≡ length (parts_of regions)
  count = counted ∙ count_parts regions

  -- a wrong number of bounds
  pub too_many : (length bounds + 1 ≢ parts) → recut_answer regions bounds ≡ Err Field
  too_many differ =
      let apart : length bounds + 1 ≢ length (parts_of regions) = rw (← count) differ in
      let test : (length bounds + 1 == length (parts_of regions)) ≡ false = grind (arith, nat_tests) in
      rw test refl

  -- bounds that do not rise, or are out of range
  pub not_rising : are_rising 1 bounds ≡ false → recut_answer regions bounds ≡ Err Field
  not_rising falls = by_test (length bounds + 1 == length (parts_of regions)) (λ e. rw (e, falls) refl) (λ e. rw e refl)

  module _ (enough : length bounds + 1 ≡ parts) (rising : are_rising 1 bounds ≡ true) where
    right_count : (length bounds + 1 == length (parts_of regions)) ≡ true
    right_count = let same = count in grind (arith, nat_tests)

    -- a loose piece
    pub some_loose : (parts ≢ length regions) → recut_answer regions bounds ≡ Err Moving
    some_loose differ =
        let whole = length_regions regions in
        let same = count in
        let loose : 0 < length (pieces_of regions) = omega (arith, whole, same, differ) in
        let test : nat_lt 0 (length (pieces_of regions)) ≡ true = grind (arith, nat_tests) in
        rw (right_count, rising, test) refl

    module _ (alone : parts ≡ length regions) where
      pub no_loose : pieces_of regions ≡ []
      no_loose = nil_from_length (pieces_of regions) (omega (arith, length_regions regions, count, alone))

      -- the moves
      pub answers : recut_answer regions bounds ≡ Ok (rising_moves 1 (bounds_of regions) bounds ++ falling_moves 1 (bounds_of regions) bounds)
      answers = rw (right_count, rising, no_loose) refl

      module _ (are : AreRegions regions) where
        -- there are at most fifteen bounds, and as many moves
        pub few_bounds : length bounds ≤ 15
        few_bounds = omega (arith, count, are.few_parts)

        pub few_moves : length (rising_moves 1 (bounds_of regions) bounds) + length (falling_moves 1 (bounds_of regions) bounds) ≤ 15
        few_moves =
            let same = length_bounds regions (length bounds) (enough ∙ alone) in
            omega (arith, length_moves 1 (bounds_of regions) bounds, same, few_bounds)

        -- all of them can be done, and lead to the bounds
        pub done : all_moved (rising_moves 1 (bounds_of regions) bounds ++ falling_moves 1 (bounds_of regions) bounds) (Ok regions) ≡ Ok (parts_between 0 1 bounds)
        done =
            let same = length_bounds regions (length bounds) (enough ∙ alone) in
            let plain = are_parts regions are no_loose in
            ap (λ rs. all_moved (rising_moves 1 (bounds_of regions) bounds ++ falling_moves 1 (bounds_of regions) bounds) (Ok rs)) plain.0
            ∙ moves_done 1 (bounds_of regions) bounds same plain.1 rising
          where
            are_parts : (rs : List Region) → AreRegions rs → pieces_of rs ≡ [] → (rs ≡ parts_between 0 1 (bounds_of rs)) × (are_rising 1 (bounds_of rs) ≡ true)
            are_parts [] are none = absurd (omega (arith, are.some_part))
            are_parts (region ∷ rest) are none = (parts_alone 0 1 region rest are.consecutive are.in_order none, rising-bounds_of 1 region rest are.consecutive)
