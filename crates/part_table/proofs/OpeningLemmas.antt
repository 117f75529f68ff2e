-- The regions at opening, one part after another.
use Rattle.part_table.proofs.Common.{◌≡◌, ◌∙◌, refl, ℕ, suc, ◌+◌, ◌*◌, ◌-◌, ◌/◌, ◌<◌, ◌≤◌, List, [], ◌∷◌, ◌++◌, true, map, append_assoc, arith, Ok, range_with_len, mul-le-mul, div_below, length-map-range_with_len, between_is, both, is_between, GREATEST_WIDTH, parts_between, opening, opening_bound, can_open, AreRegions, Part, Region, END, MOST_PARTS}
use Rattle.part_table.proofs.BoundsLemmas.{regions-parts_between}
use Rattle.part_table.proofs.ProposalLemmas.{rising_opening}

-- the product of a bound at opening is small
pub product_small : (parts p width : ℕ) → p < parts → width ≤ GREATEST_WIDTH → p * 32 / parts * width ≤ 31 * 524288
product_small parts p width below narrow =
    let less : p * 32 / parts < 32 = div_below (p * 32) parts 32 (omega arith) (omega arith) in
    let few : p * 32 / parts ≤ 31 = omega arith in
    mul-le-mul few narrow

-- the regions of all parts
abbrev pub all_parts : ℕ → ℕ → List Region
all_parts parts width = parts_between 0 1 (map (opening_bound parts width) (range_with_len 1 (parts - 1)))

-- those of the parts from one on, of which the first begins at a number
abbrev pub parts_left : ℕ → ℕ → ℕ → ℕ → List Region
parts_left parts width p lo = parts_between (p - 1) lo (map (opening_bound parts width) (range_with_len p (parts - p)))

-- one more
pub one_opened : (parts width p lo : ℕ) (list : List Region) → 1 ≤ p → p < parts → list ++ parts_left parts width p lo ≡ all_parts parts width
    → (list ++ record { lo = lo; hi = opening_bound parts width p; place = Part (p - 1) } ∷ []) ++ parts_left parts width (p + 1) (opening_bound parts width p) ≡ all_parts parts width
one_opened parts width p lo list from below so_far =
    let less : parts - p ≡ suc (parts - (p + 1)) = omega arith in
    let number : p - 1 + 1 ≡ p + 1 - 1 = omega arith in
    let left = rw (less, number) at so_far in
    append_assoc list (record { lo = lo; hi = opening_bound parts width p; place = Part (p - 1) } ∷ []) (parts_left parts width (p + 1) (opening_bound parts width p)) ∙ left

-- the last
pub last_opened : (parts width p lo : ℕ) (list : List Region) → p ≡ parts → list ++ parts_left parts width p lo ≡ all_parts parts width
    → list ++ record { lo = lo; hi = END; place = Part (parts - 1) } ∷ [] ≡ all_parts parts width
last_opened parts width p lo list last so_far =
    let none : parts - parts ≡ 0 = omega arith in
    rw (last, none) at so_far

-- what can be opened
pub record IsOpenable (parts width : ℕ) : Type 0 where
  pub some_part : 1 ≤ parts
  pub few_parts : parts ≤ 16
  pub some_width : 1 ≤ width
  pub small_width : width ≤ GREATEST_WIDTH

pub openable : (parts width : ℕ) → can_open parts width ≡ true → IsOpenable parts width
openable parts width can =
    let tests = both (is_between 1 MOST_PARTS parts) (is_between 1 GREATEST_WIDTH width) can in
    let in_parts = between_is 1 MOST_PARTS parts tests.0 in
    let in_width = between_is 1 GREATEST_WIDTH width tests.1 in
    record { some_part = in_parts.0; few_parts = in_parts.1; some_width = in_width.0; small_width = in_width.1 }

-- they are regions of all s_ids
pub regions_opened : (parts width : ℕ) → can_open parts width ≡ true → AreRegions (all_parts parts width)
regions_opened parts width can =
    let is = openable parts width can in
    let from = is.some_part in
    let to = is.few_parts in
    let count = length-map-range_with_len (opening_bound parts width) 1 (parts - 1) in
    regions-parts_between (map (opening_bound parts width) (range_with_len 1 (parts - 1))) (rising_opening parts width from to is.some_width is.small_width) (omega (arith, count))

-- the answer
pub opened : (parts width : ℕ) (list : List Region) → can_open parts width ≡ true → list ≡ all_parts parts width → Ok list ≡ opening parts width
opened parts width list can is = rw (is, can) refl
