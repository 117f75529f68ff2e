-- A part's region among all: the regions in front of it, and those behind it.
use Rattle.part_table.proofs.Common.{◌≡◌, ◌∙◌, refl, sym, ap, subst, ℕ, suc, ◌+◌, ◌<◌, ◌≤◌, List, [], ◌∷◌, ◌++◌, append_assoc, true, false, length, get_or, take, drop, length-append, arith, Some, position, AllByRecursion, range_with_len, split_at, position-Some, each-weaker, is_part, part_number, piece_number, AreRegions, IsConsecutive, parts_of, pieces_of, Part, Region, MOST_PARTS}
use Rattle.part_table.proofs.NumberLemmas.{part_place_is}
use Rattle.part_table.proofs.PlaceLemmas.{blank}
use Rattle.part_table.proofs.RangeLemmas.{range_split, range_within}

-- the numbers of two lists of regions
pub parts_of-append : (front rest : List Region) → parts_of (front ++ rest) ≡ parts_of front ++ parts_of rest
parts_of-append [] rest = refl
parts_of-append (region ∷ front) rest = rw (parts_of-append front rest) (sym (append_assoc (part_number region.place) (parts_of front) (parts_of rest)))

pub pieces_of-append : (front rest : List Region) → pieces_of (front ++ rest) ≡ pieces_of front ++ pieces_of rest
pieces_of-append [] rest = refl
pieces_of-append (region ∷ front) rest = rw (pieces_of-append front rest) (sym (append_assoc (piece_number region.place) (pieces_of front) (pieces_of rest)))

-- regions exchanged behind others
pub consecutive_front : (from : ℕ) (front rest others : List Region) → ((at : ℕ) → IsConsecutive at rest → IsConsecutive at others) → IsConsecutive from (front ++ rest) → IsConsecutive from (front ++ others)
consecutive_front from [] rest others keeps consecutive = keeps from consecutive
consecutive_front from (region ∷ front) rest others keeps consecutive = (consecutive.0, consecutive.1, consecutive_front region.hi front rest others keeps consecutive.2)

module _ (p : ℕ) (regions : List Region) (are : AreRegions regions) (i : ℕ) (index : position (is_part p) regions ≡ Some i) where
  pub here : (i < length regions) × (is_part p (get_or regions i blank) ≡ true) × ((k : ℕ) → k < i → is_part p (get_or regions k blank) ≡ false)
  here = position-Some (is_part p) regions i blank index

  pub own_place : (get_or regions i blank).place ≡ Part p
  own_place = part_place_is p (get_or regions i blank).place here.1

  pub split : regions ≡ take i regions ++ get_or regions i blank ∷ drop (i + 1) regions
  split = let next : i + 1 ≡ suc i = omega arith in rw next (split_at regions i blank here.0)

  all_parts : parts_of regions ≡ parts_of (take i regions) ++ p ∷ parts_of (drop (i + 1) regions)
  all_parts = ap parts_of split ∙ parts_of-append (take i regions) _ ∙ rw own_place refl

  numbers : (p ≡ 0 + length (parts_of (take i regions))) × (parts_of (take i regions) ≡ range_with_len 0 (length (parts_of (take i regions)))) × (parts_of (drop (i + 1) regions) ≡ range_with_len (p + 1) (length (parts_of (drop (i + 1) regions))))
  numbers = range_split 0 (length (parts_of regions)) p (parts_of (take i regions)) (parts_of (drop (i + 1) regions)) (sym all_parts ∙ are.in_order)

  -- a part has the number of the parts in front of it
  pub number_is : p ≡ length (parts_of (take i regions))
  number_is = let stands = numbers.0 in omega arith

  -- the parts in front have the lower numbers, and those behind the higher ones
  pub lower_parts : parts_of (take i regions) ≡ range_with_len 0 p
  lower_parts = rw (← number_is) at numbers.1

  pub higher_parts : parts_of (drop (i + 1) regions) ≡ range_with_len (p + 1) (length (parts_of (drop (i + 1) regions)))
  higher_parts = numbers.2

  pub count_of_parts : length (parts_of regions) ≡ p + 1 + length (parts_of (drop (i + 1) regions))
  count_of_parts =
      let all : length (parts_of regions) ≡ length (parts_of (take i regions)) + suc (length (parts_of (drop (i + 1) regions))) = ap length all_parts ∙ length-append _ _ in
      omega (arith, all, number_is)

  -- so each number behind can rise, and fall
  higher_within : AllByRecursion (λ q. (1 ≤ q) × (q < 17)) (parts_of (drop (i + 1) regions))
  higher_within =
      let few = are.few_parts in
      subst (AllByRecursion (λ q. (1 ≤ q) × (q < 17))) (sym higher_parts) (range_within (p + 1) (length (parts_of (drop (i + 1) regions))) 1 17 (omega arith) (omega (arith, count_of_parts, few)))

  pub higher_can_rise : AllByRecursion (λ q. q < 255) (parts_of (drop (i + 1) regions))
  higher_can_rise = each-weaker {P = λ q. (1 ≤ q) × (q < 17)} {Q = λ q. q < 255} (λ q is. let few = is.1 in omega arith) (parts_of (drop (i + 1) regions)) higher_within

  pub higher_can_fall : AllByRecursion (λ q. 1 ≤ q) (parts_of (drop (i + 1) regions))
  higher_can_fall = each-weaker {P = λ q. (1 ≤ q) × (q < 17)} {Q = λ q. 1 ≤ q} (λ q is. is.0) (parts_of (drop (i + 1) regions)) higher_within

  -- and the part's own one
  pub own_below : p < MOST_PARTS
  own_below = let few = are.few_parts in omega (arith, count_of_parts, few)

  pub own_can_rise : AllByRecursion (λ q. q < 255) (part_number (get_or regions i blank).place)
  own_can_rise = let few = own_below in rw own_place (omega arith, tt)

  pub all_pieces : pieces_of regions ≡ pieces_of (take i regions) ++ pieces_of (drop (i + 1) regions)
  all_pieces = ap pieces_of split ∙ pieces_of-append (take i regions) _ ∙ rw own_place refl
