-- The least piece number that is free, one number after another.
use Rattle.part_table.proofs.Common.{◌≡◌, ◌≢◌, ◌∙◌, refl, sym, ap, ℕ, ◌+◌, ◌-◌, ◌<◌, ◌≤◌, inl, inr, List, Bool, true, false, length, arith, ◌==◌, not, list_any, nat_tests, by_test, free_number, IsFreeNumber, least, is_piece, AreRegions, pieces_of, Region, MOST_PIECES}
use Rattle.part_table.proofs.LeastLemmas.{least_here, least_more, least_passes}
use Rattle.part_table.proofs.NumberLemmas.{any_piece, all_pieces, fewer_pieces, most_pieces}

-- no loose piece has a number
abbrev pub is_free : List ℕ → ℕ → Bool
is_free pieces n = not (list_any (λ m. m == n) pieces)

not_true : (b : Bool) → not b ≡ true → b ≡ false
not_true true is = absurd cc
not_true false is = refl

not_false : (b : Bool) → not b ≡ false → b ≡ true
not_false true is = refl
not_false false is = absurd cc

-- what a look for a piece says of its number
pub free_if : (regions : List Region) (n : ℕ) (answer : Bool) → answer ≡ list_any (is_piece n) regions → list_any (λ m. m == n) (pieces_of regions) ≡ answer
free_if regions n answer found = sym (found ∙ any_piece n regions)

-- a number that is free
pub free_found : (regions : List Region) (n : ℕ) → AreRegions regions → 1 ≤ n → n < 17 → list_any (λ m. m == n) (pieces_of regions) ≡ false
    → free_number (pieces_of regions) ≡ least (is_free (pieces_of regions)) n (17 - n) → IsFreeNumber (pieces_of regions) n
free_found regions n are from to fresh rest = record {
  least_free = sym (rest ∙ least_here (is_free (pieces_of regions)) n (17 - n) (omega arith) (ap not fresh));
  fresh = fresh;
  in_range = (from, omega arith);
  few = fewer_pieces n (pieces_of regions) are.numbered are.distinct (from, omega arith) fresh;
}

-- a number that is not
pub not_free : (pieces : List ℕ) (n : ℕ) → n < 17 → list_any (λ m. m == n) pieces ≡ true → free_number pieces ≡ least (is_free pieces) n (17 - n)
    → free_number pieces ≡ least (is_free pieces) (n + 1) (17 - (n + 1))
not_free pieces n to used rest = rest ∙ least_more (is_free pieces) n (17 - n) (17 - (n + 1)) (omega arith) (ap not used)

pub used_more : (pieces : List ℕ) (n : ℕ) → list_any (λ m. m == n) pieces ≡ true → ((k : ℕ) → 1 ≤ k → k < n → list_any (λ m. m == k) pieces ≡ true)
    → (k : ℕ) → 1 ≤ k → k < n + 1 → list_any (λ m. m == k) pieces ≡ true
used_more pieces n used before k from to =
    by_test (k == n)
    (λ e. let same : k ≡ n = grind (arith, nat_tests) in rw same used)
    (λ e. before k from (grind (arith, nat_tests)))

-- no number is free
pub none_free : (regions : List Region) (n : ℕ) → AreRegions regions → 17 ≤ n → ((k : ℕ) → 1 ≤ k → k < n → list_any (λ m. m == k) (pieces_of regions) ≡ true) → length (pieces_of regions) ≡ MOST_PIECES
none_free regions n are past used =
    let many = all_pieces (pieces_of regions) (λ k from to. used k from (omega arith)) in
    let few = most_pieces (pieces_of regions) are.numbered are.distinct in
    omega (arith, many, few)

-- fewer than sixteen loose pieces leave a number free
pub free_is : (regions : List Region) → AreRegions regions → (length (pieces_of regions) ≢ MOST_PIECES) → IsFreeNumber (pieces_of regions) (free_number (pieces_of regions))
free_is regions are room =
    let most = most_pieces (pieces_of regions) are.numbered are.distinct in
    elim (least_passes (is_free (pieces_of regions)) 1 16) [
      | inl is ↦
          let from = is.1 in
          let to = is.2 in
          record { least_free = refl; fresh = not_true (list_any (λ m. m == free_number (pieces_of regions)) (pieces_of regions)) is.0; in_range = (from, omega arith); few = omega (arith, most, room) }
      | inr none ↦
          let used : (k : ℕ) → 1 ≤ k → k < 17 → list_any (λ m. m == k) (pieces_of regions) ≡ true = λ k from to. not_false (list_any (λ m. m == k) (pieces_of regions)) (none k from to) in
          let many = all_pieces (pieces_of regions) used in
          absurd (room (omega (arith, many, most)))
    ]
