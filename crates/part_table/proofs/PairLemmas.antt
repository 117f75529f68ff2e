-- A take by the index of the piece's region: the part stands beside it.
use Rattle.part_table.proofs.Common.{◌≡◌, ◌∙◌, refl, sym, ap, ℕ, zero, suc, ◌+◌, ◌-◌, ◌<◌, ◌≤◌, List, [], ◌∷◌, length, get_or, set, arith, true, false, Some, None, Err, Ok, remove, Option, position, ◌==◌, nat_tests, position-Some, NoPiece, NoPart, piece_index, second_index, is_part, is_piece, AreRegions, IsConsecutive, pieces_of, answer_of_both, joint, joined, side_between, take_answer, touching, Region, Side, Low, High}
use Rattle.part_table.specs.declared.region.Place.TheVariants as place
use Rattle.part_table.proofs.FirstLemmas.{find_index, find_none}
use Rattle.part_table.proofs.IndexLemmas.{one_piece, is_piece_there}
use Rattle.part_table.proofs.JoinLemmas.{places_of_pair, ArePlaces}
use Rattle.part_table.proofs.NumberLemmas.{length_regions, most_pieces}
use Rattle.part_table.proofs.PlaceLemmas.{blank}
use Rattle.part_table.proofs.TouchLemmas.{side_behind, side_of, take_from_answer, side_from_take}

-- the index of the part, by that of the first of the two
abbrev pub part_index : Side → ℕ → ℕ
part_index Low i = i + 1
part_index High i = i

-- two neighbours with an index, of which one is the piece and the other its part
pub record IsPair (n q : ℕ) (side : Side) (regions : List Region) : Type 0 where
  pub i : ℕ
  pub within : i + 1 < length regions
  pub pair : side_between n q (get_or regions i blank) (get_or regions (i + 1) blank) ≡ Some side
  pub edit : joined n q regions ≡ remove (set regions i (joint (get_or regions i blank) (get_or regions (i + 1) blank) side)) (i + 1)

-- from a side among neighbours
pair_behind : (n q : ℕ) (side : Side) (first : Region) (regions : List Region) → side_behind n q first regions ≡ Some side → IsPair n q side (first ∷ regions)
pair_behind n q side first [] found = absurd cc
pair_behind n q side first (second ∷ regions) found = next (side_between n q first second) refl (λ f. pair_behind n q side second regions f)
  where
    next : (s : Option Side) → side_between n q first second ≡ s → (side_behind n q second regions ≡ Some side → IsPair n q side (second ∷ regions)) → IsPair n q side (first ∷ (second ∷ regions))
    next (Some d) is more =
        let one : Some d ≡ Some side = rw is at found in
        let same : d ≡ side = cc in
        record { i = 0; within = omega arith; pair = is ∙ one; edit = rw (is, same) refl }
    next None is more =
        let rest = more (rw is at found) in
        let lt = rest.within in
        let k : suc rest.i + 1 ≡ suc (rest.i + 1) = omega arith in
        record { i = suc rest.i; within = omega arith; pair = rw k rest.pair; edit = rw (is, k) (ap (λ others. first ∷ others) rest.edit) }

pair_among : (n q : ℕ) (side : Side) (regions : List Region) → side_of n q regions ≡ Some side → IsPair n q side regions
pair_among n q side [] found = absurd cc
pair_among n q side (region ∷ regions) found = pair_behind n q side region regions found

-- where the two stand
pair_places : (n q : ℕ) (side : Side) (regions : List Region) (i : ℕ) → ArePlaces n q side (get_or regions i blank).place (get_or regions (i + 1) blank).place
    → ((get_or regions (piece_index side i) blank).place ≡ place.Piece n) × ((get_or regions (part_index side i) blank).place ≡ place.Part q)
pair_places n q Low regions i places = places
pair_places n q High regions i places = (places.1, places.0)

pair_within : (side : Side) (i n : ℕ) → i + 1 < n → (piece_index side i < n) × (part_index side i < n)
pair_within Low i n lt = (omega arith, lt)
pair_within High i n lt = (lt, omega arith)

second_is : (side : Side) (i : ℕ) → second_index side (piece_index side i) ≡ i + 1
second_is Low i = refl
second_is High i = refl

-- neighbours touch
pub meet_at : (from : ℕ) (regions : List Region) (i : ℕ) → IsConsecutive from regions → i + 1 < length regions
    → ((get_or regions i blank).lo < (get_or regions i blank).hi) × ((get_or regions i blank).hi ≡ (get_or regions (i + 1) blank).lo) × ((get_or regions (i + 1) blank).lo < (get_or regions (i + 1) blank).hi)
meet_at from [] i consecutive lt = absurd (omega arith)
meet_at from (region ∷ []) i consecutive lt = absurd (omega arith)
meet_at from (region ∷ (next ∷ regions)) zero consecutive lt = (consecutive.1, sym consecutive.2.0, consecutive.2.1)
meet_at from (region ∷ (next ∷ regions)) (suc i) consecutive lt = let k : suc i + 1 ≡ suc (i + 1) = omega arith in rw k (meet_at region.hi (next ∷ regions) i consecutive.2 (omega arith))

touch_at : (side : Side) (from : ℕ) (regions : List Region) (i : ℕ) → IsConsecutive from regions → i + 1 < length regions
    → touching (get_or regions (piece_index side i) blank) (get_or regions (part_index side i) blank) ≡ Some side
touch_at Low from regions i consecutive lt =
    let meet = meet_at from regions i consecutive lt in
    let same = meet.1 in
    let e : ((get_or regions i blank).hi == (get_or regions (i + 1) blank).lo) ≡ true = grind (arith, nat_tests) in
    rw e refl
touch_at High from regions i consecutive lt =
    let meet = meet_at from regions i consecutive lt in
    let one = meet.0 in
    let same = meet.1 in
    let two = meet.2 in
    let f : ((get_or regions (i + 1) blank).hi == (get_or regions i blank).lo) ≡ false = grind (arith, nat_tests) in
    let e : ((get_or regions i blank).hi == (get_or regions (i + 1) blank).lo) ≡ true = grind (arith, nat_tests) in
    rw (f, e) refl

-- the region of a part with that of a piece on one side of it
abbrev pub joint_region : Side → Region → Region → Region
joint_region Low piece part = joint piece part Low
joint_region High piece part = joint part piece High

joint_of_pair : (side : Side) (regions : List Region) (i : ℕ) → joint (get_or regions i blank) (get_or regions (i + 1) blank) side ≡ joint_region side (get_or regions (piece_index side i) blank) (get_or regions (part_index side i) blank)
joint_of_pair Low regions i = refl
joint_of_pair High regions i = refl

pub joint_place : (side : Side) (piece part : Region) → (joint_region side piece part).place ≡ part.place
joint_place Low piece part = refl
joint_place High piece part = refl

-- the answers
pub taken_both : (n q : ℕ) (regions : List Region) (i k : ℕ) (d e : Region) → position (is_piece n) regions ≡ Some i → position (is_part q) regions ≡ Some k
    → take_answer n q regions ≡ answer_of_both (Some (get_or regions i d)) (Some (get_or regions k e))
taken_both n q regions i k d e one two = rw (find_index (is_piece n) regions i d one, find_index (is_part q) regions k e two) refl

pub no_piece : (n q : ℕ) (regions : List Region) → position (is_piece n) regions ≡ None → take_answer n q regions ≡ Err NoPiece
no_piece n q regions none = rw (find_none (is_piece n) regions none) refl

pub no_part : (n q : ℕ) (regions : List Region) (i : ℕ) → position (is_piece n) regions ≡ Some i → position (is_part q) regions ≡ None → take_answer n q regions ≡ Err NoPart
no_part n q regions i one none = rw (find_index (is_piece n) regions i blank one, find_none (is_part q) regions none) refl

module _ (n q : ℕ) (side : Side) (regions : List Region) (are : AreRegions regions) (i : ℕ) (index : position (is_piece n) regions ≡ Some i) (answer : take_answer n q regions ≡ Ok side) where
  pub pair : IsPair n q side regions
  pair = pair_among n q side regions (side_from_take n q side regions are (take_from_answer n q side regions answer))

  pub places : ((get_or regions (piece_index side pair.i) blank).place ≡ place.Piece n) × ((get_or regions (part_index side pair.i) blank).place ≡ place.Part q)
  places = pair_places n q side regions pair.i (places_of_pair n q (get_or regions pair.i blank) (get_or regions (pair.i + 1) blank) side pair.pair)

  pub within : (piece_index side pair.i < length regions) × (part_index side pair.i < length regions)
  within = pair_within side pair.i (length regions) pair.within

  here : (i < length regions) × (is_piece n (get_or regions i blank) ≡ true) × ((k : ℕ) → k < i → is_piece n (get_or regions k blank) ≡ false)
  here = position-Some (is_piece n) regions i blank index

  -- the piece of the two is the one with the index
  pub stands : i ≡ piece_index side pair.i
  stands = one_piece n regions i (piece_index side pair.i) are.distinct here.0 within.0 here.1 (is_piece_there n (get_or regions (piece_index side pair.i) blank) places.0)

  pub touch : touching (get_or regions (piece_index side pair.i) blank) (get_or regions (part_index side pair.i) blank) ≡ Some side
  touch = touch_at side 1 regions pair.i are.consecutive pair.within

  -- both become one region of the part
  pub join_edit : joined n q regions
      ≡ remove (set regions pair.i (joint_region side (get_or regions (piece_index side pair.i) blank) (get_or regions (part_index side pair.i) blank))) (pair.i + 1)
  join_edit = pair.edit ∙ ap (λ (region : Region). remove (set regions pair.i region) (pair.i + 1)) (joint_of_pair side regions pair.i)

  second : second_index side i ≡ pair.i + 1
  second = ap (second_index side) stands ∙ second_is side pair.i

  pub second_within : (1 ≤ second_index side i) × (second_index side i < length regions)
  second_within = let lt = pair.within in let is = second in (omega arith, omega arith)

  pub index_within : i < 32
  index_within = let lt = here.0 in omega (arith, length_regions regions, are.few_parts, most_pieces (pieces_of regions) are.numbered are.distinct)

  pub joined_at : remove (set regions (second_index side i - 1) (joint (get_or regions (second_index side i - 1) blank) (get_or regions (second_index side i) blank) side)) (second_index side i) ≡ joined n q regions
  joined_at = let less : pair.i + 1 - 1 ≡ pair.i = omega arith in rw (second, less) (sym pair.edit)
