-- The numbers of parts and of loose pieces among regions.
use Rattle.part_table.proofs.Common.{◌≡◌, ◌∙◌, refl, sym, ap, ℕ, ◌-◌, zero, suc, ◌+◌, ◌<◌, ◌≤◌, ◌≢◌, List, [], ◌∷◌, ◌++◌, Bool, true, false, length, arith, inl, inr, ◌==◌, ◌||◌, eqb, cond, count_by, if◌then◌else◌, nat_lt, drop, option_map, None, Option, position, take, slice_range, AllByRecursion, list_any, position_or_len, range_with_len, cases_lt, nat_tests, length-drop, take_all, sum_by-cons, IsDistinct-cons, IsDistinct-head, IsDistinct-tail, length-le_from_distinct_below, nat_eq_equiv, length-range_with_len, length-le_from_is_member, by_test, each-weaker, is_part, is_of_part, is_of_part_place, is_piece, is_part_place, is_piece_place, part_number, piece_number, AreRegions, parts_of, pieces_of, IsPieceNumber, Place, Part, Piece, Region, MOST_PIECES}
use Rattle.std.specs.List.{IsDistinct}

-- the place that a test of a part's number finds
pub part_place_is : (p : ℕ) (place : Place) → is_part_place p place ≡ true → place ≡ Part p
part_place_is p (Part number) holds = let same : number ≡ p = grind (arith, nat_tests) in ap Part same
part_place_is p (Piece number) holds = absurd cc

-- the place that a test of a piece's number finds
pub piece_place_is : (n : ℕ) (place : Place) → is_piece_place n place ≡ true → place ≡ Piece n
piece_place_is n (Part number) holds = absurd cc
piece_place_is n (Piece number) holds = let same : number ≡ n = grind (arith, nat_tests) in ap Piece same

-- a piece with a number is among the regions where the number is among those of the pieces
any_place : (n : ℕ) (place : Place) (pieces : List ℕ) (rest : Bool) → rest ≡ list_any (λ m. m == n) pieces
    → (is_piece_place n place || rest) ≡ list_any (λ m. m == n) (piece_number place ++ pieces)
any_place n (Part number) pieces rest same = same
any_place n (Piece number) pieces rest same = ap (λ r. (number == n) || r) same

pub any_piece : (n : ℕ) (regions : List Region) → list_any (is_piece n) regions ≡ list_any (λ m. m == n) (pieces_of regions)
any_piece n [] = refl
any_piece n (region ∷ regions) = any_place n region.place (pieces_of regions) (list_any (is_piece n) regions) (any_piece n regions)

-- the region of a part stands behind as many regions as there are parts before it, at least
module _ (p : ℕ) where
  one_in_front : (from k : ℕ) (region : Region) (regions : List Region)
      → ((next : ℕ) → parts_of regions ≡ range_with_len next (length (parts_of regions)) → next + k ≤ p → position_or_len (is_part p) regions ≡ k + position_or_len (is_part p) (drop k regions))
      → (place : Place) → region.place ≡ place → parts_of (region ∷ regions) ≡ range_with_len from (length (parts_of (region ∷ regions))) → from + suc k ≤ p
      → position_or_len (is_part p) (region ∷ regions) ≡ suc k + position_or_len (is_part p) (drop k regions)
  one_in_front from k region regions more (Part number) is numbers before =
      let told : number ∷ parts_of regions ≡ from ∷ range_with_len (from + 1) (length (parts_of regions)) = rw is at numbers in
      let own : number ≡ from = cc in
      let other : is_part p region ≡ false = rw is (grind (arith, nat_tests)) in
      let rest : parts_of regions ≡ range_with_len (from + 1) (length (parts_of regions)) = cc in
      let ahead : (from + 1) + k ≤ p = omega arith in
      let same = more (from + 1) rest ahead in
      rw other (omega (arith, same))
  one_in_front from k region regions more (Piece number) is numbers before =
      let rest : parts_of regions ≡ range_with_len from (length (parts_of regions)) = rw is at numbers in
      let ahead : from + k ≤ p = omega arith in
      let same = more from rest ahead in
      rw is (omega (arith, same))

  in_front : (from k : ℕ) (regions : List Region) → parts_of regions ≡ range_with_len from (length (parts_of regions)) → from + k ≤ p → k ≤ length regions
      → position_or_len (is_part p) regions ≡ k + position_or_len (is_part p) (drop k regions)
  in_front from zero regions numbers before few = omega arith
  in_front from (suc k) [] numbers before few = absurd (omega arith)
  in_front from (suc k) (region ∷ regions) numbers before few =
      one_in_front from k region regions (λ next rest ahead. in_front next k regions rest ahead (omega arith)) region.place refl numbers before

  -- so it is found among those behind them
  pub part_behind : (regions : List Region) → AreRegions regions → p ≤ length regions
      → position (is_part p) regions ≡ option_map (λ i. p + i) (position (is_part p) (drop p regions))
  part_behind regions are low =
      let front = in_front 0 p regions are.in_order (omega arith) low in
      let count = length-drop p regions in
      let behind = position_or_len (is_part p) (drop p regions) in
      elim (cases_lt behind (length (drop p regions))) [
        | inl found ↦
            let there : nat_lt (position_or_len (is_part p) regions) (length regions) ≡ true = grind (arith, nat_tests) in
            let here : nat_lt behind (length (drop p regions)) ≡ true = grind (arith, nat_tests) in
            rw (there, here, front) refl
        | inr none ↦
            let there : nat_lt (position_or_len (is_part p) regions) (length regions) ≡ false = grind (arith, nat_tests) in
            let here : nat_lt behind (length (drop p regions)) ≡ false = grind (arith, nat_tests) in
            rw (there, here) refl
      ]

  -- what is found among those behind them is found
  pub found_behind : (regions behind : List Region) (found : Option ℕ) → AreRegions regions → p ≤ length regions → behind ≡ slice_range regions p (length regions)
      → found ≡ position (is_part p) behind → option_map (λ i. p + i) found ≡ position (is_part p) regions
  found_behind regions behind found are low is same =
      let all : take (length regions - p) (drop p regions) ≡ drop p regions = let count = length-drop p regions in grind (arith, take_all) in
      rw (same, is, all) (sym (part_behind regions are low))

  -- and there is none where there are fewer regions
  pub part_nowhere : (regions : List Region) → AreRegions regions → length regions < p → position (is_part p) regions ≡ None
  part_nowhere regions are past =
      let front = in_front 0 (length regions) regions are.in_order (omega arith) (omega arith) in
      let past_all : nat_lt (position_or_len (is_part p) regions) (length regions) ≡ false = grind (arith, nat_tests) in
      rw past_all refl

-- each region is of a part or of a piece
one_place : (place : Place) (parts pieces : List ℕ) (count : ℕ) → count ≡ length parts + length pieces
    → suc count ≡ length (part_number place ++ parts) + length (piece_number place ++ pieces)
one_place (Part number) parts pieces count sum = omega arith
one_place (Piece number) parts pieces count sum = omega arith

pub length_regions : (regions : List Region) → length regions ≡ length (parts_of regions) + length (pieces_of regions)
length_regions [] = refl
length_regions (region ∷ regions) = one_place region.place (parts_of regions) (pieces_of regions) (length regions) (length_regions regions)

-- no number stands twice among none
pub none_twice : IsDistinct ◌==◌ []
unfolding IsDistinct
none_twice = tt

-- a number that is not among others differs from each
pub each_differs : (n : ℕ) (ns : List ℕ) → list_any (λ m. m == n) ns ≡ false → AllByRecursion (λ m. (n == m) ≡ false) ns
each_differs n [] fresh = tt
each_differs n (m ∷ ns) fresh =
    by_test (m == n)
    (λ e. let no : true ≡ false = rw e at fresh in absurd cc)
    (λ e. (grind (arith, nat_tests), each_differs n ns (rw e at fresh)))

-- what is among numbers has what each of them has
pub member_below : (bound q : ℕ) (ns : List ℕ) → AllByRecursion (λ m. m < bound) ns → list_any (eqb q) ns ≡ true → q < bound
member_below bound q [] each member = absurd cc
member_below bound q (n ∷ ns) each member =
    by_test (eqb q n)
    (λ e. let same : q ≡ n = grind (arith, nat_tests) in rw same each.0)
    (λ e. member_below bound q ns each.1 (rw e at member))

-- there are at most sixteen piece numbers
pub most_pieces : (ns : List ℕ) → AllByRecursion IsPieceNumber ns → IsDistinct ◌==◌ ns → length ns ≤ MOST_PIECES
most_pieces ns numbered distinct =
    let above : AllByRecursion (λ m. (0 == m) ≡ false) ns = each-weaker {P = IsPieceNumber} {Q = λ m. (0 == m) ≡ false} (λ m is. let from : 1 ≤ m = is.0 in grind (arith, nat_tests)) ns numbered in
    let below : AllByRecursion (λ m. m < 17) ns = each-weaker {P = IsPieceNumber} {Q = λ m. m < 17} (λ m is. let to : m ≤ MOST_PIECES = is.1 in omega arith) ns numbered in
    let few = length-le_from_distinct_below (0 ∷ ns) 17 (IsDistinct-cons ◌==◌ 0 ns above distinct) (λ q member. member_below 17 q (0 ∷ ns) (omega arith, below) member) in
    omega (arith, few)

-- and one less where a number is free
pub fewer_pieces : (n : ℕ) (ns : List ℕ) → AllByRecursion IsPieceNumber ns → IsDistinct ◌==◌ ns → IsPieceNumber n → list_any (λ m. m == n) ns ≡ false → length ns < MOST_PIECES
fewer_pieces n ns numbered distinct is fresh = omega (arith, most_pieces (n ∷ ns) (is, numbered) (IsDistinct-cons ◌==◌ n ns (each_differs n ns fresh) distinct))

-- sixteen where none is free
range_numbers : (a n q : ℕ) → list_any (eqb q) (range_with_len a n) ≡ true → (a ≤ q) × (q < a + n)
range_numbers a zero q member = absurd cc
range_numbers a (suc n) q member =
    by_test (eqb q a)
    (λ e. let same : q ≡ a = grind (arith, nat_tests) in (omega arith, omega arith))
    (λ e. let more = range_numbers (a + 1) n q (rw e at member) in
    let from = more.0 in
    let to = more.1 in
    (omega arith, omega arith))

same_test : (m q : ℕ) → (m == q) ≡ eqb q m
same_test m q =
    by_test (m == q)
    (λ e. let same : m ≡ q = grind (arith, nat_tests) in let f : eqb q m ≡ true = grind (arith, nat_tests) in rw (e, f) refl)
    (λ e. let differ : m ≢ q = grind (arith, nat_tests) in let f : eqb q m ≡ false = grind (arith, nat_tests) in rw (e, f) refl)

any_flipped : (q : ℕ) (ns : List ℕ) → list_any (λ m. m == q) ns ≡ list_any (eqb q) ns
any_flipped q [] = refl
any_flipped q (n ∷ ns) = rw (same_test n q, any_flipped q ns) refl

range_above : (low a n : ℕ) → low < a → AllByRecursion (λ m. (low == m) ≡ false) (range_with_len a n)
range_above low a zero below = tt
range_above low a (suc n) below = (grind (arith, nat_tests), range_above low (a + 1) n (omega arith))

pub range_distinct : (a n : ℕ) → IsDistinct ◌==◌ (range_with_len a n)
range_distinct a zero = none_twice
range_distinct a (suc n) = IsDistinct-cons ◌==◌ a (range_with_len (a + 1) n) (range_above a (a + 1) n (omega arith)) (range_distinct (a + 1) n)

pub all_pieces : (ns : List ℕ) → ((n : ℕ) → 1 ≤ n → n < 17 → list_any (λ m. m == n) ns ≡ true) → MOST_PIECES ≤ length ns
all_pieces ns used =
    let many = length-le_from_is_member nat_eq_equiv (range_with_len 1 16) ns (range_distinct 1 16) (λ q member. let within = range_numbers 1 16 q member in let from = within.0 in let to = within.1 in rw (any_flipped q ns) at (used q from (omega arith))) in
    omega (arith, many, length-range_with_len 1 16)

-- what becomes of the numbers behind a region
pub each_with : (P : ℕ → Type 0) (place : Place) (ns ms : List ℕ) → AllByRecursion P (piece_number place ++ ns) → (AllByRecursion P ns → AllByRecursion P ms) → AllByRecursion P (piece_number place ++ ms)
each_with P (Part number) ns ms each more = more each
each_with P (Piece number) ns ms each more = (each.0, more each.1)

pub distinct_behind : (place : Place) (ns ms : List ℕ) → IsDistinct ◌==◌ (piece_number place ++ ns) → ((P : ℕ → Type 0) → AllByRecursion P ns → AllByRecursion P ms) → (IsDistinct ◌==◌ ns → IsDistinct ◌==◌ ms)
    → IsDistinct ◌==◌ (piece_number place ++ ms)
distinct_behind (Part number) ns ms distinct each more = more distinct
distinct_behind (Piece number) ns ms distinct each more =
    IsDistinct-cons ◌==◌ number ms (each (λ m. (number == m) ≡ false) (IsDistinct-head ◌==◌ number ns distinct)) (more (IsDistinct-tail ◌==◌ number ns distinct))

-- as many regions are of parts as there are parts
count_place : (place : Place) (parts : List ℕ) (count : ℕ) → count ≡ length parts → (if is_of_part_place place then 1 else 0) + count ≡ length (part_number place ++ parts)
count_place (Part number) parts count same = omega arith
count_place (Piece number) parts count same = omega arith

pub count_parts : (regions : List Region) → count_by is_of_part regions ≡ length (parts_of regions)
count_parts [] = refl
count_parts (region ∷ regions) =
    sum_by-cons (λ r. cond (is_of_part r) 1 0) region regions ∙ count_place region.place (parts_of regions) (count_by is_of_part regions) (count_parts regions)

-- the same for parts
any_part_place : (q : ℕ) (place : Place) (parts : List ℕ) (rest : Bool) → rest ≡ list_any (λ m. m == q) parts
    → (is_part_place q place || rest) ≡ list_any (λ m. m == q) (part_number place ++ parts)
any_part_place q (Part number) parts rest same = ap (λ r. (number == q) || r) same
any_part_place q (Piece number) parts rest same = same

pub any_part : (q : ℕ) (regions : List Region) → list_any (is_part q) regions ≡ list_any (λ m. m == q) (parts_of regions)
any_part q [] = refl
any_part q (region ∷ regions) = any_part_place q region.place (parts_of regions) (list_any (is_part q) regions) (any_part q regions)

-- a number that differs from each is not among them
pub none_among : (n : ℕ) (ns : List ℕ) → AllByRecursion (λ m. (n == m) ≡ false) ns → list_any (λ m. m == n) ns ≡ false
none_among n [] each = refl
none_among n (m ∷ ns) each =
    let differs = each.0 in
    let e : (m == n) ≡ false = grind (arith, nat_tests) in
    rw e (none_among n ns each.1)
