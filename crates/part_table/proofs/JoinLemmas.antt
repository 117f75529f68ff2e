-- What joining a piece to the part beside it keeps.
use Rattle.part_table.proofs.Common.{◌≡◌, refl, ap, ℕ, List, [], ◌∷◌, ◌++◌, append_assoc, arith, Some, None, Option, ◌==◌, ◌&&◌, AllByRecursion, IsDistinct, IsDistinct-tail, by_test, both, is_part, is_piece, part_number, piece_number, AreRegions, IsConsecutive, IsPieceNumber, parts_of, pieces_of, side_between, part_place, joined_pair, joined_behind, joined, Place, Part, Piece, Region, Side, Low, High}
use Rattle.part_table.proofs.NumberLemmas.{part_place_is, piece_place_is, each_with, distinct_behind}

-- two neighbours that are a piece and a part
pub record ArePair (n q : ℕ) (first second : Region) (side : Side) : Type 0 where
  pub parts : part_number first.place ++ part_number second.place ≡ part_number (part_place first second side)
  pub pieces : piece_number first.place ++ piece_number second.place ≡ n ∷ piece_number (part_place first second side)
  pub no_piece : piece_number (part_place first second side) ≡ []

-- where they stand, by the side of the part on which the piece lies
abbrev pub ArePlaces : ℕ → ℕ → Side → Place → Place → Type 0
ArePlaces n q Low first second = (first ≡ Piece n) × (second ≡ Part q)
ArePlaces n q High first second = (first ≡ Part q) × (second ≡ Piece n)

pub places_of_pair : (n q : ℕ) (first second : Region) (side : Side) → side_between n q first second ≡ Some side → ArePlaces n q side first.place second.place
places_of_pair n q first second side found =
    by_test (is_piece n first && is_part q second)
    (λ e. let low : Some Low ≡ Some side = rw e at found in
    let is : Low ≡ side = cc in
    let tests = both (is_piece n first) (is_part q second) e in
    rw (← is) (piece_place_is n first.place tests.0, part_place_is q second.place tests.1))
    (λ e. by_test (is_part q first && is_piece n second)
    (λ f. let high : Some High ≡ Some side = rw (e, f) at found in
    let is : High ≡ side = cc in
    let tests = both (is_part q first) (is_piece n second) f in
    rw (← is) (part_place_is q first.place tests.0, piece_place_is n second.place tests.1))
    (λ f. let none : None ≡ Some side = rw (e, f) at found in absurd cc))

pair_of_places : (n q : ℕ) (first second : Region) (side : Side) → ArePlaces n q side first.place second.place → ArePair n q first second side
pair_of_places n q first second Low places = record { parts = rw (places.0, places.1) refl; pieces = rw (places.0, places.1) refl; no_piece = rw places.1 refl }
pair_of_places n q first second High places = record { parts = rw (places.0, places.1) refl; pieces = rw (places.0, places.1) refl; no_piece = rw places.0 refl }

pub pair_of : (n q : ℕ) (first second : Region) (side : Side) → side_between n q first second ≡ Some side → ArePair n q first second side
pair_of n q first second side found = pair_of_places n q first second side (places_of_pair n q first second side found)

-- the regions still follow one another
consecutive_pair : (o : Option Side) (from : ℕ) (first second : Region) (regions others : List Region) → IsConsecutive from (first ∷ (second ∷ regions)) → IsConsecutive first.hi others
    → IsConsecutive from (joined_pair o first second regions others)
consecutive_pair None from first second regions others consecutive rest = (consecutive.0, consecutive.1, rest)
consecutive_pair (Some side) from first second regions others consecutive rest =
    let one = consecutive.1 in
    let two = consecutive.2.1 in
    let meets = consecutive.2.0 in
    (consecutive.0, omega arith, consecutive.2.2)

consecutive-joined_behind : (n q from : ℕ) (first : Region) (regions : List Region) → IsConsecutive from (first ∷ regions) → IsConsecutive from (joined_behind n q first regions)
consecutive-joined_behind n q from first [] consecutive = consecutive
consecutive-joined_behind n q from first (second ∷ regions) consecutive =
    consecutive_pair (side_between n q first second) from first second regions (joined_behind n q second regions) consecutive (consecutive-joined_behind n q first.hi second regions consecutive.2)

-- the parts keep their numbers
parts_of_pair : (n q : ℕ) (o : Option Side) (first second : Region) (regions others : List Region) → side_between n q first second ≡ o → parts_of others ≡ parts_of (second ∷ regions)
    → parts_of (joined_pair o first second regions others) ≡ parts_of (first ∷ (second ∷ regions))
parts_of_pair n q None first second regions others found same = ap (λ rest. part_number first.place ++ rest) same
parts_of_pair n q (Some side) first second regions others found same =
    let pair = pair_of n q first second side found in
    rw (← pair.parts) (append_assoc (part_number first.place) (part_number second.place) (parts_of regions))

pub parts_of-joined_behind : (n q : ℕ) (first : Region) (regions : List Region) → parts_of (joined_behind n q first regions) ≡ parts_of (first ∷ regions)
parts_of-joined_behind n q first [] = refl
parts_of-joined_behind n q first (second ∷ regions) =
    parts_of_pair n q (side_between n q first second) first second regions (joined_behind n q second regions) refl (parts_of-joined_behind n q second regions)

-- the other pieces keep theirs
pub pieces_of_pair : (n q : ℕ) (first second : Region) (side : Side) (regions : List Region) → ArePair n q first second side
    → pieces_of (first ∷ (second ∷ regions)) ≡ n ∷ (piece_number (part_place first second side) ++ pieces_of regions)
pieces_of_pair n q first second side regions pair =
    rw (← append_assoc (piece_number first.place) (piece_number second.place) (pieces_of regions), pair.pieces) refl

each_pair : (P : ℕ → Type 0) (n q : ℕ) (o : Option Side) (first second : Region) (regions others : List Region) → side_between n q first second ≡ o
    → AllByRecursion P (pieces_of (first ∷ (second ∷ regions))) → (AllByRecursion P (pieces_of (second ∷ regions)) → AllByRecursion P (pieces_of others))
    → AllByRecursion P (pieces_of (joined_pair o first second regions others))
each_pair P n q None first second regions others found each more = each_with P first.place (pieces_of (second ∷ regions)) (pieces_of others) each more
each_pair P n q (Some side) first second regions others found each more =
    let pair = pair_of n q first second side found in
    let all = rw (pieces_of_pair n q first second side regions pair) at each in
    all.1

each-joined_behind : (P : ℕ → Type 0) (n q : ℕ) (first : Region) (regions : List Region) → AllByRecursion P (pieces_of (first ∷ regions)) → AllByRecursion P (pieces_of (joined_behind n q first regions))
each-joined_behind P n q first [] each = each
each-joined_behind P n q first (second ∷ regions) each =
    each_pair P n q (side_between n q first second) first second regions (joined_behind n q second regions) refl each (each-joined_behind P n q second regions)

distinct_pair : (n q : ℕ) (o : Option Side) (first second : Region) (regions others : List Region) → side_between n q first second ≡ o
    → IsDistinct ◌==◌ (pieces_of (first ∷ (second ∷ regions))) → ((P : ℕ → Type 0) → AllByRecursion P (pieces_of (second ∷ regions)) → AllByRecursion P (pieces_of others))
    → (IsDistinct ◌==◌ (pieces_of (second ∷ regions)) → IsDistinct ◌==◌ (pieces_of others)) → IsDistinct ◌==◌ (pieces_of (joined_pair o first second regions others))
distinct_pair n q None first second regions others found distinct each more = distinct_behind first.place (pieces_of (second ∷ regions)) (pieces_of others) distinct each more
distinct_pair n q (Some side) first second regions others found distinct each more =
    let pair = pair_of n q first second side found in
    let all = rw (pieces_of_pair n q first second side regions pair) at distinct in
    IsDistinct-tail ◌==◌ n (piece_number (part_place first second side) ++ pieces_of regions) all

distinct-joined_behind : (n q : ℕ) (first : Region) (regions : List Region) → IsDistinct ◌==◌ (pieces_of (first ∷ regions)) → IsDistinct ◌==◌ (pieces_of (joined_behind n q first regions))
distinct-joined_behind n q first [] distinct = distinct
distinct-joined_behind n q first (second ∷ regions) distinct =
    distinct_pair n q (side_between n q first second) first second regions (joined_behind n q second regions) refl distinct
    (λ P each. each-joined_behind P n q second regions each)
    (distinct-joined_behind n q second regions)

-- a take leaves regions of all s_ids
pub regions-joined : (n q : ℕ) (regions : List Region) → AreRegions regions → AreRegions (joined n q regions)
regions-joined n q [] are = are
regions-joined n q (region ∷ regions) are =
    let parts = parts_of-joined_behind n q region regions in
    record {
      consecutive = consecutive-joined_behind n q 1 region regions are.consecutive;
      in_order = rw parts are.in_order;
      some_part = rw parts are.some_part;
      few_parts = rw parts are.few_parts;
      numbered = each-joined_behind IsPieceNumber n q region regions are.numbered;
      distinct = distinct-joined_behind n q region regions are.distinct;
    }
