-- A piece and a part touch where they are neighbours among the regions.
use Rattle.part_table.proofs.Common.{◌≡◌, ◌∙◌, refl, sym, ap, ℕ, ◌<◌, ◌≤◌, List, [], ◌∷◌, ◌++◌, Bool, true, false, length, arith, Some, None, Ok, Option, ◌==◌, find, IsDistinct, list_any, ok_or, option_or, nat_tests, IsDistinct-head, IsDistinct-tail, by_test, is_part, is_piece, is_part_place, is_piece_place, part_number, piece_number, AreRegions, IsConsecutive, parts_of, pieces_of, side_between, touching, answer_of_both, take_answer, Place, Part, Piece, Region, Side, NotAdjacent}
use Rattle.part_table.proofs.NumberLemmas.{part_place_is, piece_place_is, any_piece, any_part, none_among, range_distinct}

-- the side of a part on which a piece lies, where two neighbours among a region and those behind it are the two
abbrev pub side_behind : ℕ → ℕ → Region → List Region → Option Side
side_behind n q first [] = None
side_behind n q first (second ∷ regions) = option_or (side_between n q first second) (side_behind n q second regions)

-- the same among all regions
abbrev pub side_of : ℕ → ℕ → List Region → Option Side
side_of n q [] = None
side_of n q (region ∷ regions) = side_behind n q region regions

-- a region is of a part or of a piece
not_part : (n q : ℕ) (place : Place) → is_piece_place n place ≡ true → is_part_place q place ≡ false
not_part n q (Part number) is = absurd cc
not_part n q (Piece number) is = refl

-- the tail of distinct numbers
pub other_pieces : (place : Place) (ns : List ℕ) → IsDistinct ◌==◌ (piece_number place ++ ns) → IsDistinct ◌==◌ ns
other_pieces (Part number) ns distinct = distinct
other_pieces (Piece number) ns distinct = IsDistinct-tail ◌==◌ number ns distinct

pub other_parts : (place : Place) (ns : List ℕ) → IsDistinct ◌==◌ (part_number place ++ ns) → IsDistinct ◌==◌ ns
other_parts (Part number) ns distinct = IsDistinct-tail ◌==◌ number ns distinct
other_parts (Piece number) ns distinct = distinct

-- a piece or a part does not stand twice
pub no_second_piece : (n : ℕ) (first : Region) (regions : List Region) → is_piece n first ≡ true → IsDistinct ◌==◌ (pieces_of (first ∷ regions)) → list_any (is_piece n) regions ≡ false
no_second_piece n first regions is distinct =
    let place = piece_place_is n first.place is in
    let numbers = rw place at distinct in
    any_piece n regions ∙ none_among n (pieces_of regions) (IsDistinct-head ◌==◌ n (pieces_of regions) numbers)

pub no_second_part : (q : ℕ) (first : Region) (regions : List Region) → is_part q first ≡ true → IsDistinct ◌==◌ (parts_of (first ∷ regions)) → list_any (is_part q) regions ≡ false
no_second_part q first regions is distinct =
    let place = part_place_is q first.place is in
    let numbers = rw place at distinct in
    any_part q regions ∙ none_among q (parts_of regions) (IsDistinct-head ◌==◌ q (parts_of regions) numbers)

-- without the piece or without the part no neighbours are both
pub no_side_without_piece : (n q : ℕ) (first : Region) (regions : List Region) → list_any (is_piece n) (first ∷ regions) ≡ false → side_behind n q first regions ≡ None
no_side_without_piece n q first [] none = refl
no_side_without_piece n q first (second ∷ regions) none =
    by_test (is_piece n first)
    (λ e. let found : true ≡ false = rw e at none in absurd cc)
    (λ e. let rest = rw e at none in
    by_test (is_piece n second)
    (λ f. let found : true ≡ false = rw f at rest in absurd cc)
    (λ f. by_test (is_part q first)
    (λ g. rw (e, f, g) (no_side_without_piece n q second regions rest))
    (λ g. rw (e, g) (no_side_without_piece n q second regions rest))))

pub no_side_without_part : (n q : ℕ) (first : Region) (regions : List Region) → list_any (is_part q) (first ∷ regions) ≡ false → side_behind n q first regions ≡ None
no_side_without_part n q first [] none = refl
no_side_without_part n q first (second ∷ regions) none =
    by_test (is_part q first)
    (λ e. let found : true ≡ false = rw e at none in absurd cc)
    (λ e. let rest = rw e at none in
    by_test (is_part q second)
    (λ f. let found : true ≡ false = rw f at rest in absurd cc)
    (λ f. by_test (is_piece n first)
    (λ g. rw (e, f, g) (no_side_without_part n q second regions rest))
    (λ g. rw (e, g) (no_side_without_part n q second regions rest))))

-- a region that is found lies behind the first number
found_behind : (test : Region → Bool) (from : ℕ) (regions : List Region) (one : Region) → IsConsecutive from regions → find test regions ≡ Some one → (from ≤ one.lo) × (one.lo < one.hi)
found_behind test from [] one consecutive found = absurd cc
found_behind test from (region ∷ regions) one consecutive found =
    by_test (test region)
    (λ e. let here : Some region ≡ Some one = rw e at found in
    let same : region ≡ one = cc in
    let begins = consecutive.0 in
    rw (← same) (omega arith, consecutive.1))
    (λ e. let more = found_behind test region.hi regions one consecutive.2 (rw e at found) in
    let begins = consecutive.0 in
    let some = consecutive.1 in
    let behind = more.0 in
    (omega arith, more.1))

-- ranges with another between them do not touch
apart : (low high : Region) → low.lo < low.hi → low.hi < high.lo → high.lo < high.hi → (touching low high ≡ None) × (touching high low ≡ None)
apart low high some between more =
    let a : (low.hi == high.lo) ≡ false = grind (arith, nat_tests) in
    let b : (high.hi == low.lo) ≡ false = grind (arith, nat_tests) in
    (rw (a, b) refl, rw (b, a) refl)

-- among distinct regions the neighbours that are the piece and the part are those whose ranges touch
sides_agree_behind : (n q from : ℕ) (first : Region) (regions : List Region) (piece part : Region) → IsConsecutive from (first ∷ regions)
    → IsDistinct ◌==◌ (pieces_of (first ∷ regions)) → IsDistinct ◌==◌ (parts_of (first ∷ regions))
    → find (is_piece n) (first ∷ regions) ≡ Some piece → find (is_part q) (first ∷ regions) ≡ Some part → side_behind n q first regions ≡ touching piece part
sides_agree_behind n q from first [] piece part consecutive pieces parts one two =
    by_test (is_piece n first)
    (λ e. let other = not_part n q first.place e in
    let none : None ≡ Some part = rw other at two in absurd cc)
    (λ e. let none : None ≡ Some piece = rw e at one in absurd cc)
sides_agree_behind n q from first (second ∷ regions) piece part consecutive pieces parts one two =
    let some = consecutive.1 in
    let meets = consecutive.2.0 in
    let more = consecutive.2.1 in
    by_test (is_piece n first)
    (λ e. let other = not_part n q first.place e in
    let here : Some first ≡ Some piece = rw e at one in
    let is_first : first ≡ piece = cc in
    let there = rw other at two in
    rw (← is_first) (by_test (is_part q second)
    (λ f. let next : Some second ≡ Some part = rw f at there in
    let is_second : second ≡ part = cc in
    let touch : (first.hi == second.lo) ≡ true = grind (arith, nat_tests) in
    rw (← is_second, e, f, touch) refl)
    (λ f. let far = found_behind (is_part q) second.hi regions part consecutive.2.2 (rw f at there) in
    let begins = far.0 in
    let none = no_side_without_piece n q second regions (no_second_piece n first (second ∷ regions) e pieces) in
    rw (e, f, other) (none ∙ sym (apart first part some (omega arith) far.1).0))))
    (λ e. let there = rw e at one in
    by_test (is_part q first)
    (λ f. let here : Some first ≡ Some part = rw f at two in
    let is_first : first ≡ part = cc in
    rw (← is_first) (by_test (is_piece n second)
    (λ g. let next : Some second ≡ Some piece = rw g at there in
    let is_second : second ≡ piece = cc in
    let no_touch : (second.hi == first.lo) ≡ false = grind (arith, nat_tests) in
    let touch : (first.hi == second.lo) ≡ true = grind (arith, nat_tests) in
    rw (← is_second, e, f, g, no_touch, touch) refl)
    (λ g. let far = found_behind (is_piece n) second.hi regions piece consecutive.2.2 (rw g at there) in
    let begins = far.0 in
    let none = no_side_without_part n q second regions (no_second_part q first (second ∷ regions) f parts) in
    rw (e, f, g) (none ∙ sym (apart first piece some (omega arith) far.1).1))))
    (λ f. rw (e, f)
    (sides_agree_behind n q first.hi second regions piece part consecutive.2 (other_pieces first.place (pieces_of (second ∷ regions)) pieces) (other_parts first.place (parts_of (second ∷ regions)) parts)
    there (rw f at two))))

sides_agree : (n q : ℕ) (regions : List Region) (piece part : Region) → AreRegions regions → find (is_piece n) regions ≡ Some piece → find (is_part q) regions ≡ Some part
    → side_of n q regions ≡ touching piece part
sides_agree n q [] piece part are one two = absurd cc
sides_agree n q (region ∷ regions) piece part are one two =
    let parts : IsDistinct ◌==◌ (parts_of (region ∷ regions)) = rw are.in_order (range_distinct 0 (length (parts_of (region ∷ regions)))) in
    sides_agree_behind n q 1 region regions piece part are.consecutive are.distinct parts one two

-- what the answer of a take says that is no refusal: both are there and touch
pub record IsTake (n q : ℕ) (side : Side) (regions : List Region) : Type 0 where
  pub piece : Region
  pub part : Region
  pub piece_found : find (is_piece n) regions ≡ Some piece
  pub part_found : find (is_part q) regions ≡ Some part
  pub touch : touching piece part ≡ Some side

take_of_touch : (o : Option Side) (side : Side) → ok_or o NotAdjacent ≡ Ok side → o ≡ Some side
take_of_touch None side takes = absurd cc
take_of_touch (Some found) side takes = let same : found ≡ side = cc in ap Some same

take_of_both : (one two : Option Region) (n q : ℕ) (side : Side) (regions : List Region) → find (is_piece n) regions ≡ one → find (is_part q) regions ≡ two
    → answer_of_both one two ≡ Ok side → IsTake n q side regions
take_of_both None two n q side regions piece_found part_found takes = absurd cc
take_of_both (Some piece) None n q side regions piece_found part_found takes = absurd cc
take_of_both (Some piece) (Some part) n q side regions piece_found part_found takes =
    record { piece = piece; part = part; piece_found = piece_found; part_found = part_found; touch = take_of_touch (touching piece part) side takes }

pub take_from_answer : (n q : ℕ) (side : Side) (regions : List Region) → take_answer n q regions ≡ Ok side → IsTake n q side regions
take_from_answer n q side regions takes = take_of_both (find (is_piece n) regions) (find (is_part q) regions) n q side regions refl refl takes

-- they are neighbours
pub side_from_take : (n q : ℕ) (side : Side) (regions : List Region) → AreRegions regions → IsTake n q side regions → side_of n q regions ≡ Some side
side_from_take n q side regions are take = sides_agree n q regions take.piece take.part are take.piece_found take.part_found ∙ take.touch
