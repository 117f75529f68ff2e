-- The answer of a dissolve by the index of the part's region.
use Rattle.part_table.proofs.Common.{◌≡◌, ◌≢◌, ◌∙◌, refl, ap, ℕ, zero, suc, ◌+◌, ◌-◌, ◌≤◌, List, [], length, get_or, take, arith, true, false, Option, Some, None, Result, Ok, Err, ◌==◌, find, position, nat_tests, by_test, Refusal, NoPart, NotAdjacent, dissolve_answer, dissolve_answer_of, part_before, is_of_part, is_of_part_place, is_part, AreRegions, parts_of, Place, Part, Piece, Region}
use Rattle.part_table.proofs.FirstLemmas.{find_index, find_none}
use Rattle.part_table.proofs.IndexLemmas.{is_part_there, part_found}
use Rattle.part_table.proofs.PairLemmas.{meet_at}
use Rattle.part_table.proofs.PlaceLemmas.{blank}
use Rattle.part_table.proofs.SplitLemmas.{here, number_is}
use Rattle.part_table.proofs.DissolveLemmas.{dissolve_from_answer, front_place, next_number}

-- a part that isn't there
pub dissolve_nowhere : (p : ℕ) (regions : List Region) → position (is_part p) regions ≡ None → dissolve_answer p regions ≡ Err NoPart
dissolve_nowhere p regions none = ap (λ found. dissolve_answer_of found (part_before p regions) p) (find_none (is_part p) regions none)

module _ (p : ℕ) (regions : List Region) (are : AreRegions regions) (i : ℕ) (index : position (is_part p) regions ≡ Some i) where
  abbrev one : Region
  one = get_or regions i blank

  found_answer : dissolve_answer p regions ≡ dissolve_answer_of (Some one) (part_before p regions) p
  found_answer = ap (λ found. dissolve_answer_of found (part_before p regions) p) (find_index (is_part p) regions i blank index)

  -- of the first part
  first_answer : (q : ℕ) → q ≡ 0 → dissolve_answer_of (Some one) (part_before q regions) q ≡ Err NotAdjacent
  first_answer zero is = refl
  first_answer (suc q) is = absurd (omega arith)

  pub dissolve_first : i ≡ 0 → dissolve_answer p regions ≡ Err NotAdjacent
  dissolve_first first =
      let none : take i regions ≡ [] = rw first refl in
      found_answer ∙ first_answer p (number_is p regions are i index ∙ ap (λ others. length (parts_of others)) none)

  -- of a part with a piece in front of it
  refused_unless : (o : Result (ℕ × ℕ × ℕ) Refusal) (before : Option Region) → o ≡ dissolve_answer_of (Some one) before p → ((answer : ℕ × ℕ × ℕ) → o ≡ Ok answer → ⊥) → o ≡ Err NotAdjacent
  refused_unless o None is never = is
  refused_unless o (Some front) is never =
      by_test (front.hi == one.lo) (λ e. absurd (never _ (rw e at is))) (λ e. rw e at is)

  pub dissolve_behind_piece : is_of_part (get_or regions (i - 1) blank) ≡ false → dissolve_answer p regions ≡ Err NotAdjacent
  dissolve_behind_piece piece = refused_unless (dissolve_answer p regions) (part_before p regions) found_answer (λ answer dissolves.
      let place = front_place p regions answer (dissolve_from_answer p regions answer dissolves) are i index in
      let clash : true ≡ false = rw place at piece in cc)

  -- of a part with another one in front of it
  of_part_is : (place : Place) → is_of_part_place place ≡ true → (q : ℕ) × (place ≡ Part q)
  of_part_is (Part q) is = (q, refl)
  of_part_is (Piece n) is = absurd cc

  module _ (behind : i ≢ 0) (other : is_of_part (get_or regions (i - 1) blank) ≡ true) where
    front_is : (q : ℕ) × ((get_or regions (i - 1) blank).place ≡ Part q)
    front_is = of_part_is (get_or regions (i - 1) blank).place other

    less : i - 1 + 1 ≡ i
    less = omega arith

    numbered_behind : p ≡ front_is.0 + 1
    numbered_behind = next_number p front_is.0 regions are (i - 1) (rw less index) front_is.1

    pub not_first : 1 ≤ p
    not_first = let is = numbered_behind in omega arith

    front_found : find (is_part front_is.0) regions ≡ Some (get_or regions (i - 1) blank)
    front_found =
        let lt = (here p regions are i index).0 in
        let there = part_found front_is.0 regions (i - 1) are (omega arith) (is_part_there front_is.0 (get_or regions (i - 1) blank) front_is.1) in
        find_index (is_part front_is.0) regions (i - 1) blank there

    both_answer : (q : ℕ) → q ≡ front_is.0 + 1 → dissolve_answer_of (Some one) (part_before q regions) q ≡ Ok (q - 1, (get_or regions (i - 1) blank).lo, one.hi)
    both_answer zero is = absurd (omega arith)
    both_answer (suc q) is =
        let own : q ≡ front_is.0 = omega arith in
        let lt = (here p regions are i index).0 in
        let meets = (meet_at 1 regions (i - 1) are.consecutive (omega arith)).1 in
        let meet : (get_or regions (i - 1) blank).hi ≡ one.lo = rw less at meets in
        let e : ((get_or regions (i - 1) blank).hi == one.lo) ≡ true = grind (arith, nat_tests) in
        rw (own, front_found, e) refl

    pub dissolve_behind_part : dissolve_answer p regions ≡ Ok (p - 1, (get_or regions (i - 1) blank).lo, (get_or regions i blank).hi)
    dissolve_behind_part = found_answer ∙ both_answer p numbered_behind
