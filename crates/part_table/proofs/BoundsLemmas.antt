-- Bounds that rise, and the regions of parts alone between them.
use Rattle.part_table.proofs.Common.{◌≡◌, refl, sym, ap, ℕ, zero, suc, ◌+◌, ◌<◌, ◌≤◌, List, [], ◌∷◌, ◌++◌, true, length, map, arith, ◌&&◌, Bool, Some, find, nat_lt, nat_le, range_with_len, nat_tests, by_test, both, both_from, LAST_SUBSCRIBER, are_rising, parts_between, bounds_of, part_number, piece_number, AreRegions, IsConsecutive, parts_of, pieces_of, Place, Part, Piece, Region, END, MOST_PARTS}
use Rattle.part_table.proofs.NumberLemmas.{none_twice}

-- what rising bounds say of the first
pub rising_first : (low bound : ℕ) (bounds : List ℕ) → are_rising low (bound ∷ bounds) ≡ true → (low < bound) × (bound ≤ LAST_SUBSCRIBER) × (are_rising bound bounds ≡ true)
rising_first low bound bounds rising =
    let first = both (nat_lt low bound) (nat_le bound LAST_SUBSCRIBER && are_rising bound bounds) rising in
    let more = both (nat_le bound LAST_SUBSCRIBER) (are_rising bound bounds) first.1 in
    let above = first.0 in
    let below = more.0 in
    (grind (arith, nat_tests), grind (arith, nat_tests), more.1)

pub rising_from : (low bound : ℕ) (bounds : List ℕ) → low < bound → bound ≤ LAST_SUBSCRIBER → are_rising bound bounds ≡ true → are_rising low (bound ∷ bounds) ≡ true
rising_from low bound bounds above below more =
    both_from (nat_lt low bound) (nat_le bound LAST_SUBSCRIBER && are_rising bound bounds) (grind (arith, nat_tests))
    (both_from (nat_le bound LAST_SUBSCRIBER) (are_rising bound bounds) (grind (arith, nat_tests)) more)

-- the values of a rising function, up to the last s_id
pub rising_map : (f : ℕ → ℕ) (low a n : ℕ) → (0 < n → low < f a) → ((i : ℕ) → a ≤ i → i + 1 < a + n → f i < f (i + 1)) → ((i : ℕ) → a ≤ i → i < a + n → f i ≤ LAST_SUBSCRIBER)
    → are_rising low (map f (range_with_len a n)) ≡ true
rising_map f low a zero above rises below = refl
rising_map f low a (suc n) above rises below =
    rising_from low (f a) (map f (range_with_len (a + 1) n)) (above (omega arith)) (below a (omega arith) (omega arith))
    (rising_map f (f a) (a + 1) n (λ some. rises a (omega arith) (omega arith)) (λ i from to. rises i (omega arith) (omega arith)) (λ i from to. below i (omega arith) (omega arith)))

-- regions between rising bounds follow one another
consecutive-parts_between : (p lo : ℕ) (bounds : List ℕ) → lo < END → are_rising lo bounds ≡ true → IsConsecutive lo (parts_between p lo bounds)
consecutive-parts_between p lo [] below rising = (refl, below, refl)
consecutive-parts_between p lo (bound ∷ bounds) below rising =
    let first = rising_first lo bound bounds rising in
    let to = first.1 in
    (refl, first.0, consecutive-parts_between (p + 1) bound bounds (omega arith) first.2)

-- they are numbered in order
parts_of-parts_between : (p lo : ℕ) (bounds : List ℕ) → parts_of (parts_between p lo bounds) ≡ range_with_len p (suc (length bounds))
parts_of-parts_between p lo [] = refl
parts_of-parts_between p lo (bound ∷ bounds) = ap (λ rest. p ∷ rest) (parts_of-parts_between (p + 1) bound bounds)

length-range : (a n : ℕ) → length (range_with_len a n) ≡ n
length-range a zero = refl
length-range a (suc n) = ap suc (length-range (a + 1) n)

pub length_parts : (p lo : ℕ) (bounds : List ℕ) → length (parts_of (parts_between p lo bounds)) ≡ length bounds + 1
length_parts p lo bounds = rw (parts_of-parts_between p lo bounds, length-range p (suc (length bounds))) (omega arith)

-- none is a piece
pub no_pieces : (p lo : ℕ) (bounds : List ℕ) → pieces_of (parts_between p lo bounds) ≡ []
no_pieces p lo [] = refl
no_pieces p lo (bound ∷ bounds) = no_pieces (p + 1) bound bounds

-- so they are regions of all s_ids
pub regions-parts_between : (bounds : List ℕ) → are_rising 1 bounds ≡ true → length bounds < MOST_PARTS → AreRegions (parts_between 0 1 bounds)
regions-parts_between bounds rising few =
    let count = length_parts 0 1 bounds in
    let none = no_pieces 0 1 bounds in
    record {
      consecutive = consecutive-parts_between 0 1 bounds (omega arith) rising;
      in_order = let numbers = parts_of-parts_between 0 1 bounds in let more : length bounds + 1 ≡ suc (length bounds) = omega arith in rw (count, more) numbers;
      some_part = omega arith;
      few_parts = omega arith;
      numbered = rw none tt;
      distinct = rw none none_twice;
    }

-- regions end at the last s_id at most
pub within : (from : ℕ) (regions : List Region) → IsConsecutive from regions → from ≤ END
within from [] consecutive = omega arith
within from (region ∷ regions) consecutive =
    let begins = consecutive.0 in
    let some = consecutive.1 in
    let more = within region.hi regions consecutive.2 in
    omega arith

pub found_within : (test : Region → Bool) (from : ℕ) (regions : List Region) (one : Region) → IsConsecutive from regions → find test regions ≡ Some one → one.hi ≤ END
found_within test from [] one consecutive found = absurd cc
found_within test from (region ∷ regions) one consecutive found =
    by_test (test region)
    (λ e. let here : Some region ≡ Some one = rw e at found in
    let same : region ≡ one = cc in
    rw (← same) (within region.hi regions consecutive.2))
    (λ e. found_within test region.hi regions one consecutive.2 (rw e at found))

-- the bounds between regions rise
pub rising-bounds_of : (from : ℕ) (region : Region) (regions : List Region) → IsConsecutive from (region ∷ regions) → are_rising from (bounds_of (region ∷ regions)) ≡ true
rising-bounds_of from region [] consecutive = refl
rising-bounds_of from region (next ∷ regions) consecutive =
    let begins = consecutive.0 in
    let some = consecutive.1 in
    let meets = consecutive.2.0 in
    let more = consecutive.2.1 in
    let end = within next.hi regions consecutive.2.2 in
    rising_from from next.lo (map (λ r. r.lo) regions) (omega arith) (omega arith) (rw meets (rising-bounds_of region.hi next regions consecutive.2))

-- a place that is no piece's
part_of_place : (place : Place) (p : ℕ) (parts pieces : List ℕ) (count : ℕ) → piece_number place ++ pieces ≡ [] → part_number place ++ parts ≡ range_with_len p (length (part_number place ++ parts))
    → (place ≡ Part p) × (pieces ≡ []) × (parts ≡ range_with_len (p + 1) (length parts))
part_of_place (Part number) p parts pieces count none numbers =
    let here : number ≡ p = cc in (ap Part here, none, cc)
part_of_place (Piece number) p parts pieces count none numbers = absurd cc

-- regions of parts alone are those between their bounds
pub parts_alone : (p from : ℕ) (region : Region) (regions : List Region) → IsConsecutive from (region ∷ regions) → parts_of (region ∷ regions) ≡ range_with_len p (length (parts_of (region ∷ regions)))
    → pieces_of (region ∷ regions) ≡ [] → region ∷ regions ≡ parts_between p from (bounds_of (region ∷ regions))
parts_alone p from region [] consecutive numbers none =
    let here = part_of_place region.place p [] [] 0 none numbers in
    ap (λ one. one ∷ []) (λ i. record { lo = consecutive.0 i; hi = consecutive.2 i; place = here.0 i })
parts_alone p from region (next ∷ regions) consecutive numbers none =
    let here = part_of_place region.place p (parts_of (next ∷ regions)) (pieces_of (next ∷ regions)) 0 none numbers in
    let meets = consecutive.2.0 in
    let first : region ≡ record { lo = from; hi = next.lo; place = Part p } = λ i. record { lo = consecutive.0 i; hi = sym meets i; place = here.0 i } in
    let rest = parts_alone (p + 1) region.hi next regions consecutive.2 here.2 here.1 in
    let more = rw (← meets) at rest in
    λ i. first i ∷ more i
