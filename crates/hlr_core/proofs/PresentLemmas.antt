-- The parts and the loose pieces that are there have small numbers.
use Rattle.hlr_core.proofs.Common.{◌≡◌, ◌∙◌, refl, sym, subst, ℕ, zero, suc, ◌+◌, ◌<◌, ◌≤◌, List, [], ◌∷◌, Bool, true, length, arith, ◌==◌, AllByRecursion, find, list_any, range_with_len, nat_tests, by_test, any_part, any_piece, is_part, is_piece, AreRegions, IsPieceNumber, parts_of, pieces_of, take_answer, answer_of_both, Region, Side, MayAnswer, Option, Some, Ok}

-- what was found passes the test
found_passes : {A : Type 0} (test : A → Bool) (xs : List A) (x : A) → find test xs ≡ Some x → list_any test xs ≡ true
found_passes test [] x found = absurd cc
found_passes test (y ∷ xs) x found = by_test (test y) (λ e. rw e refl) (λ e. rw e (found_passes test xs x (rw e at found)))

-- a number among others has what each of them has
each_among : (P : ℕ → Type 0) (n : ℕ) (ns : List ℕ) → AllByRecursion P ns → list_any (λ m. m == n) ns ≡ true → P n
each_among P n [] each among = absurd cc
each_among P n (m ∷ ns) each among =
    by_test (m == n)
    (λ e. let same : m ≡ n = grind (arith, nat_tests) in subst P same each.0)
    (λ e. each_among P n ns each.1 (rw e at among))

-- the numbers of a range lie below its end
range_below : (a n end : ℕ) → a + n ≤ end → AllByRecursion (λ m. m < end) (range_with_len a n)
range_below a zero end within = tt
range_below a (suc n) end within = (omega arith, range_below (a + 1) n end (omega arith))

-- a loose piece that is there has one of sixteen numbers, and so has a part
pub piece_small : (regions : List Region) (n : ℕ) (piece : Region) → AreRegions regions → find (is_piece n) regions ≡ Some piece → n ≤ 16
piece_small regions n piece are found =
    (each_among IsPieceNumber n (pieces_of regions) are.numbered (sym (any_piece n regions) ∙ found_passes (is_piece n) regions piece found)).1

pub part_small : (regions : List Region) (q : ℕ) (part : Region) → AreRegions regions → find (is_part q) regions ≡ Some part → q < 16
part_small regions q part are found =
    let few = are.few_parts in
    let below : AllByRecursion (λ m. m < 16) (parts_of regions) = rw (are.in_order) (range_below 0 (length (parts_of regions)) 16 (omega arith)) in
    each_among (λ m. m < 16) q (parts_of regions) below (sym (any_part q regions) ∙ found_passes (is_part q) regions part found)

-- where a take is done, its piece and its part are there
pub taken_small : (n q : ℕ) (side : Side) (regions : List Region) → AreRegions regions → MayAnswer (take_answer n q regions) (Ok side) → (n ≤ 16) × (q < 16)
taken_small n q side regions are may = cases (find (is_piece n) regions) (find (is_part q) regions) refl refl may
  where
    cases : (piece part : Option Region) → find (is_piece n) regions ≡ piece → find (is_part q) regions ≡ part → MayAnswer (answer_of_both piece part) (Ok side) → (n ≤ 16) × (q < 16)
    cases (Some piece) (Some part) e f may = (piece_small regions n piece are e, part_small regions q part are f)
    cases piece part e f may = absurd cc
