-- Regions by their index: each part, each piece and each s_id has one.
use Rattle.part_table.proofs.Common.{◌≡◌, ◌≢◌, ◌∙◌, refl, sym, ap, ℕ, zero, suc, ◌+◌, ◌<◌, ◌≤◌, List, [], ◌∷◌, Bool, true, false, length, get_or, arith, inl, inr, Option, Some, None, ◌==◌, position, IsDistinct, list_any, range_with_len, cases_lt, nat_tests, list_any_at, position-Some, by_test, is_part, is_piece, lies_in, AreRegions, parts_of, pieces_of, place_of, Place, Part, Piece, Region}
use Rattle.part_table.proofs.FirstLemmas.{none_passes}
use Rattle.part_table.proofs.NumberLemmas.{any_part, range_distinct}
use Rattle.part_table.proofs.PlaceLemmas.{blank}
use Rattle.part_table.proofs.TouchLemmas.{no_second_piece, no_second_part, other_pieces, other_parts}

-- no other one passes, where none of the rest does
none_at : (test : Region → Bool) (regions : List Region) (i : ℕ) → list_any test regions ≡ false → i < length regions → test (get_or regions i blank) ≡ true → ⊥
none_at test regions i none within is = let clash : false ≡ true = sym none ∙ list_any_at test regions i blank within is in cc

-- no piece and no part stands twice
pub one_piece : (n : ℕ) (regions : List Region) (i j : ℕ) → IsDistinct ◌==◌ (pieces_of regions) → i < length regions → j < length regions
    → is_piece n (get_or regions i blank) ≡ true → is_piece n (get_or regions j blank) ≡ true → i ≡ j
one_piece n [] i j distinct within below one two = absurd (omega arith)
one_piece n (region ∷ regions) zero zero distinct within below one two = refl
one_piece n (region ∷ regions) zero (suc j) distinct within below one two = absurd (none_at (is_piece n) regions j (no_second_piece n region regions one distinct) (omega arith) two)
one_piece n (region ∷ regions) (suc i) zero distinct within below one two = absurd (none_at (is_piece n) regions i (no_second_piece n region regions two distinct) (omega arith) one)
one_piece n (region ∷ regions) (suc i) (suc j) distinct within below one two =
    ap suc (one_piece n regions i j (other_pieces region.place (pieces_of regions) distinct) (omega arith) (omega arith) one two)

one_part : (p : ℕ) (regions : List Region) (i j : ℕ) → IsDistinct ◌==◌ (parts_of regions) → i < length regions → j < length regions
    → is_part p (get_or regions i blank) ≡ true → is_part p (get_or regions j blank) ≡ true → i ≡ j
one_part p [] i j distinct within below one two = absurd (omega arith)
one_part p (region ∷ regions) zero zero distinct within below one two = refl
one_part p (region ∷ regions) zero (suc j) distinct within below one two = absurd (none_at (is_part p) regions j (no_second_part p region regions one distinct) (omega arith) two)
one_part p (region ∷ regions) (suc i) zero distinct within below one two = absurd (none_at (is_part p) regions i (no_second_part p region regions two distinct) (omega arith) one)
one_part p (region ∷ regions) (suc i) (suc j) distinct within below one two =
    ap suc (one_part p regions i j (other_parts region.place (parts_of regions) distinct) (omega arith) (omega arith) one two)

-- a number is its own
same_number : (n : ℕ) → (n == n) ≡ true
same_number n = grind (arith, nat_tests)

pub is_part_there : (p : ℕ) (region : Region) → region.place ≡ Part p → is_part p region ≡ true
is_part_there p region is = rw is (same_number p)

pub is_piece_there : (n : ℕ) (region : Region) → region.place ≡ Piece n → is_piece n region ≡ true
is_piece_there n region is = rw is (same_number n)

-- where an s_id that somebody holds lies
s_id_index : (s_id : ℕ) (place : Place) (regions : List Region) → place_of s_id regions ≡ Some place
    → (i : ℕ) × (i < length regions) × (lies_in s_id (get_or regions i blank) ≡ true) × ((get_or regions i blank).place ≡ place)
s_id_index s_id place [] holds = absurd cc
s_id_index s_id place (region ∷ regions) holds =
    by_test (lies_in s_id region)
    (λ e. let here : Some region.place ≡ Some place = rw e at holds in (0, omega arith, e, cc))
    (λ e. let more = s_id_index s_id place regions (rw e at holds) in let within = more.1 in (suc more.0, omega arith, more.2, more.3))

-- so the region of a part has the s_ids that the part holds
pub part_has : (s_id p i : ℕ) (regions : List Region) → AreRegions regions → position (is_part p) regions ≡ Some i → place_of s_id regions ≡ Some (Part p) → lies_in s_id (get_or regions i blank) ≡ true
part_has s_id p i regions are index holds =
    let part = position-Some (is_part p) regions i blank index in
    let home = s_id_index s_id (Part p) regions holds in
    let distinct : IsDistinct ◌==◌ (parts_of regions) = rw are.in_order (range_distinct 0 (length (parts_of regions))) in
    let same = one_part p regions i home.0 distinct part.0 home.1 part.1 (is_part_there p (get_or regions home.0 blank) home.3) in
    rw same home.2

-- and where a part's region stands is where it is found
part_found_at : (p : ℕ) (regions : List Region) (i : ℕ) (found : Option ℕ) → AreRegions regions → i < length regions → is_part p (get_or regions i blank) ≡ true → position (is_part p) regions ≡ found → found ≡ Some i
part_found_at p regions i None are within is found =
    let clash : false ≡ true = sym (none_passes (is_part p) regions found) ∙ list_any_at (is_part p) regions i blank within is in absurd cc
part_found_at p regions i (Some j) are within is found =
    let there = position-Some (is_part p) regions j blank found in
    let distinct : IsDistinct ◌==◌ (parts_of regions) = rw are.in_order (range_distinct 0 (length (parts_of regions))) in
    ap Some (one_part p regions j i distinct there.0 within there.1 is)

pub part_found : (p : ℕ) (regions : List Region) (i : ℕ) → AreRegions regions → i < length regions → is_part p (get_or regions i blank) ≡ true → position (is_part p) regions ≡ Some i
part_found p regions i are within is = part_found_at p regions i (position (is_part p) regions) are within is refl

-- a number in a range is among its numbers
among_range : (a n q : ℕ) → a ≤ q → q < a + n → list_any (λ m. m == q) (range_with_len a n) ≡ true
among_range a zero q from to = absurd (omega arith)
among_range a (suc n) q from to =
    by_test (a == q)
    (λ e. rw e refl)
    (λ e. let differs : a ≢ q = grind (arith, nat_tests) in rw e (among_range (a + 1) n q (omega arith) (omega arith)))

-- a part that isn't there has a number behind the last
pub past_parts : (p : ℕ) (regions : List Region) → AreRegions regions → position (is_part p) regions ≡ None → length (parts_of regions) ≤ p
past_parts p regions are none = elim (cases_lt p (length (parts_of regions))) [
  | inl below ↦
      let among = ap (list_any (λ m. m == p)) are.in_order ∙ among_range 0 (length (parts_of regions)) p (omega arith) (omega arith) in
      let clash : true ≡ false = sym among ∙ sym (any_part p regions) ∙ none_passes (is_part p) regions none in
      absurd cc
  | inr past ↦ past
]
