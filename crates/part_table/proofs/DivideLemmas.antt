-- What the answer of a divide says that is no refusal, and what a divide leaves.
use Rattle.part_table.proofs.Common.{◌≡◌, ◌≢◌, ◌∙◌, refl, sym, ap, subst, ℕ, zero, suc, ◌+◌, ◌<◌, List, [], ◌∷◌, ◌++◌, length, get_or, set, take, drop, map, arith, true, false, Option, Some, None, Ok, Err, ◌==◌, ◌&&◌, nat_lt, count_by, find, insert, position, range_with_len, nat_tests, position-Some, by_test, both, OutOfRange, ManyParts, NoPart, divide_answer, divide_answer_of, divided, place_raised, raised, is_of_part, is_part, AreRegions, IsConsecutive, parts_of, pieces_of, Part, Region, END, MOST_PARTS}
use Rattle.part_table.proofs.BehindLemmas.{anew_from, insert_anew}
use Rattle.part_table.proofs.BoundsLemmas.{found_within}
use Rattle.part_table.proofs.FirstLemmas.{find_index, find_none}
use Rattle.part_table.proofs.NumberLemmas.{count_parts, length_regions, most_pieces}
use Rattle.part_table.proofs.PlaceLemmas.{blank}
use Rattle.part_table.proofs.RangeLemmas.{range_append, range_count, range_raised}
use Rattle.part_table.proofs.RenumberLemmas.{consecutive-renumbered, parts_of-raised, pieces_of-raised, region_raised}
use Rattle.part_table.proofs.SplitLemmas.{all_pieces, consecutive_front, count_of_parts, higher_parts, lower_parts, own_place, parts_of-append, pieces_of-append, split}

-- the part is there and has the bound strictly inside, and there are fewer than sixteen parts
pub record IsDivide (p : ℕ) (at : ℕ) (regions : List Region) (answer : ℕ × ℕ × ℕ) : Type 0 where
  pub part : Region
  pub found : find (is_part p) regions ≡ Some part
  pub above : part.lo < at
  pub below : at < part.hi
  pub room : length (parts_of regions) < MOST_PARTS
  pub told : answer ≡ (p + 1, at, part.hi)

divide_of_part : (o : Option Region) (p : ℕ) (at : ℕ) (regions : List Region) (answer : ℕ × ℕ × ℕ) → AreRegions regions → find (is_part p) regions ≡ o
    → divide_answer_of o p at regions ≡ Ok answer → IsDivide p at regions answer
divide_of_part None p at regions answer are found divides = absurd cc
divide_of_part (Some part) p at regions answer are found divides =
    by_test (nat_lt part.lo at && nat_lt at part.hi)
    (λ e. by_test (length (parts_of regions) == MOST_PARTS)
    (λ f. let no : Err ManyParts ≡ Ok answer = rw (e, f) at divides in absurd cc)
    (λ f. let tests = both (nat_lt part.lo at) (nat_lt at part.hi) e in
    let above = tests.0 in
    let below = tests.1 in
    let few = are.few_parts in
    let differ : length (parts_of regions) ≢ MOST_PARTS = grind (arith, nat_tests) in
    let ok : Ok (p + 1, at, part.hi) ≡ Ok answer = rw (e, f) at divides in
    record { part = part; found = found; above = grind (arith, nat_tests); below = grind (arith, nat_tests); room = omega (arith, few, differ); told = cc }))
    (λ e. let no : Err OutOfRange ≡ Ok answer = rw e at divides in absurd cc)

pub divide_from_answer : (p : ℕ) (at : ℕ) (regions : List Region) (answer : ℕ × ℕ × ℕ) → AreRegions regions → divide_answer p at regions ≡ Ok answer → IsDivide p at regions answer
divide_from_answer p at regions answer are divides = divide_of_part (find (is_part p) regions) p at regions answer are refl divides

-- the regions that a part's becomes
abbrev pub low_half : ℕ → Region → Region
low_half at part = record part { hi = at }

abbrev pub high_half : ℕ → ℕ → Region → Region
high_half p at part = record { lo = at; hi = part.hi; place = Part (p + 1) }

-- a divide by the index of the part's region
divided_at : (p at : ℕ) (regions : List Region) (i : ℕ) → i < length regions → is_part p (get_or regions i blank) ≡ true → ((k : ℕ) → k < i → is_part p (get_or regions k blank) ≡ false)
    → divided p at regions ≡ take i regions ++ low_half at (get_or regions i blank) ∷ (high_half p at (get_or regions i blank) ∷ raised (drop (i + 1) regions))
divided_at p at [] i within is before = absurd (omega arith)
divided_at p at (region ∷ regions) zero within is before = rw is refl
divided_at p at (region ∷ regions) (suc i) within is before =
    let e : is_part p region ≡ false = before 0 (omega arith) in
    let more : suc i + 1 ≡ suc (i + 1) = omega arith in
    rw (e, more) (ap (λ rest. region ∷ rest) (divided_at p at regions i (omega arith) is (λ k below. before (suc k) (omega arith))))

-- by lists: the regions in front as they were, the two halves, and those behind with higher numbers
pub divided_split : (p at : ℕ) (regions : List Region) (i : ℕ) → position (is_part p) regions ≡ Some i
    → divided p at regions ≡ take i regions ++ low_half at (get_or regions i blank) ∷ (high_half p at (get_or regions i blank) ∷ raised (drop (i + 1) regions))
divided_split p at regions i index = let is = position-Some (is_part p) regions i blank index in divided_at p at regions i is.0 is.1 is.2

-- by edits: later numbers rise, the part's region is exchanged for its low half, and the high one put in behind
pub divided_edit : (p at : ℕ) (regions : List Region) (i : ℕ) → position (is_part p) regions ≡ Some i
    → divided p at regions ≡ insert (set (anew_from region_raised (i + 1) regions) i (low_half at (get_or regions i blank))) (i + 1) (high_half p at (get_or regions i blank))
divided_edit p at regions i index =
    divided_split p at regions i index ∙ sym (insert_anew region_raised regions i _ _ (position-Some (is_part p) regions i blank index).0)

-- so the regions are those that code leaves that raises the part's own number for the high half
pub divided_by : (p at : ℕ) (regions : List Region) (i : ℕ) → AreRegions regions → position (is_part p) regions ≡ Some i → (low high : Region) → low ≡ low_half at (get_or regions i blank)
    → high ≡ record (get_or regions i blank) { lo = at; place = place_raised (get_or regions i blank).place } → insert (set (anew_from region_raised (i + 1) regions) i low) (i + 1) high ≡ divided p at regions
divided_by p at regions i are index low high one two =
    let place : place_raised (get_or regions i blank).place ≡ Part (p + 1) = ap place_raised (own_place p regions are i index) in
    rw (one, two, place) (sym (divided_edit p at regions i index))

-- the answer by the part's region: there are sixteen parts, or fewer
module _ (part : Region) (p at : ℕ) (regions : List Region) (above : part.lo < at) (below : at < part.hi) where
  inside : (nat_lt part.lo at && nat_lt at part.hi) ≡ true
  inside =
      let low : nat_lt part.lo at ≡ true = grind (arith, nat_tests) in
      let high : nat_lt at part.hi ≡ true = grind (arith, nat_tests) in
      rw (low, high) refl

  pub divide_refused : (parts : ℕ) → parts ≡ count_by is_of_part regions → parts ≡ MOST_PARTS → divide_answer_of (Some part) p at regions ≡ Err ManyParts
  divide_refused parts counted many =
      let same = counted ∙ count_parts regions in
      let full : (length (parts_of regions) == MOST_PARTS) ≡ true = grind (arith, nat_tests) in
      rw (inside, full) refl

  pub divide_done : (parts : ℕ) → parts ≡ count_by is_of_part regions → parts ≢ MOST_PARTS → divide_answer_of (Some part) p at regions ≡ Ok (p + 1, at, part.hi)
  divide_done parts counted few =
      let same = counted ∙ count_parts regions in
      let differ : length (parts_of regions) ≢ MOST_PARTS = rw (← same) few in
      let room : (length (parts_of regions) == MOST_PARTS) ≡ false = grind (arith, nat_tests) in
      rw (inside, room) refl

-- the part's answer is that of its region
pub divide_at_index : (p at : ℕ) (regions : List Region) (i : ℕ) (d : Region) → position (is_part p) regions ≡ Some i → divide_answer p at regions ≡ divide_answer_of (Some (get_or regions i d)) p at regions
divide_at_index p at regions i d index = ap (λ found. divide_answer_of found p at regions) (find_index (is_part p) regions i d index)

pub divide_nowhere : (p at : ℕ) (regions : List Region) → position (is_part p) regions ≡ None → divide_answer p at regions ≡ Err NoPart
divide_nowhere p at regions none = ap (λ found. divide_answer_of found p at regions) (find_none (is_part p) regions none)

module _ (p : ℕ) (at : ℕ) (regions : List Region) (answer : ℕ × ℕ × ℕ) (divide : IsDivide p at regions answer) (are : AreRegions regions) where
  -- there is room for one more
  pub divide_room : length regions < 32
  divide_room = omega (arith, length_regions regions, divide.room, most_pieces (pieces_of regions) are.numbered are.distinct)

  -- the bound is an s_id
  pub bound_fits : at < END
  bound_fits = let low = divide.below in omega (arith, found_within (is_part p) 1 regions divide.part are.consecutive divide.found)

module _ (p : ℕ) (at : ℕ) (regions : List Region) (answer : ℕ × ℕ × ℕ) (divide : IsDivide p at regions answer) (are : AreRegions regions) (i : ℕ) (index : position (is_part p) regions ≡ Some i) where
  abbrev part : Region
  part = get_or regions i blank

  abbrev behind : List Region
  behind = drop (i + 1) regions

  same_part : part ≡ divide.part
  same_part = let one : Some part ≡ Some divide.part = sym (find_index (is_part p) regions i blank index) ∙ divide.found in cc

  -- the bound lies inside the part at the index
  pub bound_inside : (part.lo < at) × (at < part.hi)
  bound_inside = rw same_part (divide.above, divide.below)

  parts-divided : parts_of (divided p at regions) ≡ range_with_len 0 (p + suc (suc (length (parts_of behind))))
  parts-divided =
      let high : parts_of (raised behind) ≡ range_with_len (p + 1 + 1) (length (parts_of behind)) =
      parts_of-raised behind ∙ ap (map (λ q. q + 1)) (higher_parts p regions are i index) ∙ range_raised (p + 1) (length (parts_of behind)) in
      let own : 0 + p ≡ p = omega arith in
      ap parts_of (divided_split p at regions i index) ∙ parts_of-append (take i regions) _
      ∙ rw (own_place p regions are i index, lower_parts p regions are i index, high) (rw own at (range_append 0 p (suc (suc (length (parts_of behind))))))

  -- there is one part more
  pub count-divided : length (parts_of (divided p at regions)) ≡ length (parts_of regions) + 1
  count-divided = omega (arith, (range_count 0 _ _ parts-divided).1, count_of_parts p regions are i index)

  -- the loose pieces stay
  pub pieces_of-divided : pieces_of (divided p at regions) ≡ pieces_of regions
  pieces_of-divided =
      ap pieces_of (divided_split p at regions i index) ∙ pieces_of-append (take i regions) _
      ∙ rw (own_place p regions are i index, pieces_of-raised behind) (sym (all_pieces p regions are i index))

  consecutive-divided : IsConsecutive 1 (divided p at regions)
  consecutive-divided =
      rw (divided_split p at regions i index) (consecutive_front 1 (take i regions) (part ∷ behind) _
      (λ from consecutive. (consecutive.0, bound_inside.0, (refl, bound_inside.1, consecutive-renumbered place_raised part.hi behind consecutive.2)))
      (subst (IsConsecutive 1) (split p regions are i index) are.consecutive))

  -- a divide leaves regions of all s_ids
  pub regions-divided : AreRegions (divided p at regions)
  regions-divided =
      let more = count-divided in
      let room = divide.room in
      record {
        consecutive = consecutive-divided;
        in_order = (range_count 0 _ _ parts-divided).0;
        some_part = omega arith;
        few_parts = omega arith;
        numbered = rw pieces_of-divided are.numbered;
        distinct = rw pieces_of-divided are.distinct;
      }
