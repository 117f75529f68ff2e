-- What the answer of a give says that is no refusal.
use Rattle.part_table.proofs.Common.{◌≡◌, ◌≢◌, refl, ℕ, ◌<◌, List, length, arith, Option, Some, None, Ok, Err, ◌==◌, ◌&&◌, nat_lt, find, nat_tests, by_test, both, OutOfRange, ManyPieces, IsFreeNumber, free_number, given, answer_of_part, give_answer, cut, is_part, AreRegions, pieces_of, Region, Side, MOST_PIECES}
use Rattle.part_table.proofs.CutLemmas.{regions-cut}
use Rattle.part_table.proofs.FreeLemmas.{free_is}
use Rattle.part_table.proofs.NumberLemmas.{length_regions}

-- the part is there and has the bound strictly inside, and a number is free for the stretch
pub record IsGive (p : ℕ) (side : Side) (at : ℕ) (regions : List Region) (answer : ℕ × ℕ × ℕ) : Type 0 where
  pub part : Region
  pub found : find (is_part p) regions ≡ Some part
  pub above : part.lo < at
  pub below : at < part.hi
  pub room : length (pieces_of regions) ≢ MOST_PIECES
  pub told : answer ≡ (free_number (pieces_of regions), (given side at part).0, (given side at part).1)

give_of_part : (o : Option Region) (p : ℕ) (side : Side) (at : ℕ) (regions : List Region) (answer : ℕ × ℕ × ℕ) → find (is_part p) regions ≡ o
    → answer_of_part o side at regions ≡ Ok answer → IsGive p side at regions answer
give_of_part None p side at regions answer found given = absurd cc
give_of_part (Some part) p side at regions answer found gives =
    by_test (nat_lt part.lo at && nat_lt at part.hi)
    (λ e. by_test (length (pieces_of regions) == MOST_PIECES)
    (λ f. let no : Err ManyPieces ≡ Ok answer = rw (e, f) at gives in absurd cc)
    (λ f. let tests = both (nat_lt part.lo at) (nat_lt at part.hi) e in
    let above = tests.0 in
    let below = tests.1 in
    let ok : Ok (free_number (pieces_of regions), (given side at part).0, (given side at part).1) ≡ Ok answer = rw (e, f) at gives in
    record { part = part; found = found; above = grind (arith, nat_tests); below = grind (arith, nat_tests); room = grind (arith, nat_tests); told = cc }))
    (λ e. let no : Err OutOfRange ≡ Ok answer = rw e at gives in absurd cc)

pub give_from_answer : (p : ℕ) (side : Side) (at : ℕ) (regions : List Region) (answer : ℕ × ℕ × ℕ) → give_answer p side at regions ≡ Ok answer → IsGive p side at regions answer
give_from_answer p side at regions answer gives = give_of_part (find (is_part p) regions) p side at regions answer refl gives

module _ (p : ℕ) (side : Side) (at : ℕ) (regions : List Region) (answer : ℕ × ℕ × ℕ) (give : IsGive p side at regions answer) (are : AreRegions regions) where
  -- the number is free
  pub number_free : IsFreeNumber (pieces_of regions) answer.0
  number_free = rw give.told (free_is regions are give.room)

  -- the regions have room for one more
  pub has_room : length regions < 32
  has_room = omega (arith, length_regions regions, are.few_parts, number_free.few)

  -- a cut leaves regions of all s_ids
  pub leaves_regions : AreRegions (cut p answer.0 side at regions)
  leaves_regions = regions-cut p answer.0 side at regions give.part give.found give.above give.below number_free.in_range number_free.fresh are
