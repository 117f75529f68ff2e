-- What the answer of a dissolve says that is no refusal, and what a dissolve leaves.
use Rattle.part_table.proofs.Common.{◌≡◌, ◌≢◌, ◌∙◌, refl, sym, ap, subst, ℕ, zero, suc, ◌+◌, ◌-◌, ◌<◌, ◌≤◌, List, [], ◌∷◌, ◌++◌, append_assoc, length, get_or, set, take, drop, map, length-append, arith, true, false, Option, Some, None, Ok, Err, ◌==◌, find, remove, position, range_with_len, drop-cons, split_at, take-suc, nat_tests, append-nil, length-range_with_len, position-Some, by_test, NotAdjacent, dissolve_answer, dissolve_answer_of, dissolved, lowered, part_before, place_lowered, is_part, AreRegions, IsConsecutive, parts_of, pieces_of, Part, Region}
use Rattle.part_table.proofs.BehindLemmas.{anew_from, remove_anew}
use Rattle.part_table.proofs.FirstLemmas.{find_index, find_none}
use Rattle.part_table.proofs.PlaceLemmas.{blank}
use Rattle.part_table.proofs.RangeLemmas.{range_append, range_count, range_lowered, range_split}
use Rattle.part_table.proofs.RenumberLemmas.{consecutive-renumbered, parts_of-lowered, pieces_of-lowered, region_lowered}
use Rattle.part_table.proofs.SplitLemmas.{all_pieces, consecutive_front, count_of_parts, here, higher_parts, lower_parts, own_place, parts_of-append, pieces_of-append}

-- both parts are there and touch
pub record IsDissolve (p : ℕ) (regions : List Region) (answer : ℕ × ℕ × ℕ) : Type 0 where
  pub part : Region
  pub front : Region
  pub later : p ≢ 0
  pub found : find (is_part p) regions ≡ Some part
  pub front_found : find (is_part (p - 1)) regions ≡ Some front
  pub meets : front.hi ≡ part.lo
  pub told : answer ≡ (p - 1, front.lo, part.hi)

part_before_is : (p : ℕ) (regions : List Region) (front : Region) → part_before p regions ≡ Some front → (p ≢ 0) × (find (is_part (p - 1)) regions ≡ Some front)
part_before_is zero regions front before = absurd cc
part_before_is (suc p) regions front before = let same : suc p - 1 ≡ p = omega arith in (omega arith, rw same before)

dissolve_of_parts : (one two : Option Region) (p : ℕ) (regions : List Region) (answer : ℕ × ℕ × ℕ) → find (is_part p) regions ≡ one → part_before p regions ≡ two
    → dissolve_answer_of one two p ≡ Ok answer → IsDissolve p regions answer
dissolve_of_parts None two p regions answer found before dissolves = absurd cc
dissolve_of_parts (Some part) None p regions answer found before dissolves = absurd cc
dissolve_of_parts (Some part) (Some front) p regions answer found before dissolves =
    by_test (front.hi == part.lo)
    (λ e. let is = part_before_is p regions front before in
    let ok : Ok (p - 1, front.lo, part.hi) ≡ Ok answer = rw e at dissolves in
    record { part = part; front = front; later = is.0; found = found; front_found = is.1; meets = grind (arith, nat_tests); told = cc })
    (λ e. let no : Err NotAdjacent ≡ Ok answer = rw e at dissolves in absurd cc)

pub dissolve_from_answer : (p : ℕ) (regions : List Region) (answer : ℕ × ℕ × ℕ) → dissolve_answer p regions ≡ Ok answer → IsDissolve p regions answer
dissolve_from_answer p regions answer dissolves = dissolve_of_parts (find (is_part p) regions) (part_before p regions) p regions answer refl refl dissolves

-- the region of a part with the range behind it
abbrev pub both_ranges : Region → Region → Region
both_ranges front part = record front { hi = part.hi }

-- a dissolve by the index of the region in front of the part's
dissolved_at : (p : ℕ) (regions : List Region) (i : ℕ) → i + 1 < length regions → is_part p (get_or regions (i + 1) blank) ≡ true → ((k : ℕ) → k < i + 1 → is_part p (get_or regions k blank) ≡ false)
    → dissolved p regions ≡ take i regions ++ both_ranges (get_or regions i blank) (get_or regions (i + 1) blank) ∷ lowered (drop (i + 2) regions)
dissolved_at p [] i within is before = absurd (omega arith)
dissolved_at p (first ∷ []) i within is before = absurd (omega arith)
dissolved_at p (first ∷ (second ∷ regions)) zero within is before = rw is refl
dissolved_at p (first ∷ (second ∷ regions)) (suc i) within is before =
    let e : is_part p second ≡ false = before 1 (omega arith) in
    let one : suc i + 1 ≡ suc (i + 1) = omega arith in
    let two : suc i + 2 ≡ suc (i + 2) = omega arith in
    rw (e, one, two) (ap (λ rest. first ∷ rest) (dissolved_at p (second ∷ regions) i (omega arith) (rw one at is) (λ k below. before (suc k) (omega arith))))

-- by lists: the regions in front as they were, that of the part in front with both ranges, and those behind with lower
-- numbers
pub dissolved_split : (p : ℕ) (regions : List Region) (i : ℕ) → position (is_part p) regions ≡ Some (i + 1)
    → dissolved p regions ≡ take i regions ++ both_ranges (get_or regions i blank) (get_or regions (i + 1) blank) ∷ lowered (drop (i + 2) regions)
dissolved_split p regions i index = let is = position-Some (is_part p) regions (i + 1) blank index in dissolved_at p regions i is.0 is.1 is.2

-- by edits: later numbers fall, the region in front is exchanged for that with both ranges, and the part's is taken out
pub dissolved_edit : (p : ℕ) (regions : List Region) (i : ℕ) → 0 < i → position (is_part p) regions ≡ Some i
    → dissolved p regions ≡ remove (set (anew_from region_lowered (i + 1) regions) (i - 1) (both_ranges (get_or regions (i - 1) blank) (get_or regions i blank))) i
dissolved_edit p regions zero behind index = absurd (omega arith)
dissolved_edit p regions (suc i) behind index =
    let less : suc i - 1 ≡ i = omega arith in
    let one : suc i ≡ i + 1 = omega arith in
    let two : suc i + 1 ≡ i + 2 = omega arith in
    let place = rw one at index in
    rw (less, two, one) (dissolved_split p regions i place ∙ sym (remove_anew region_lowered regions i _ (position-Some (is_part p) regions (i + 1) blank place).0))

-- a region lies behind the number at which the first begins
stands_behind : (from : ℕ) (regions : List Region) (i : ℕ) → IsConsecutive from regions → i < length regions → (from ≤ (get_or regions i blank).lo) × ((get_or regions i blank).lo < (get_or regions i blank).hi)
stands_behind from [] i consecutive lt = absurd (omega arith)
stands_behind from (region ∷ regions) zero consecutive lt = let begins = consecutive.0 in (omega arith, consecutive.1)
stands_behind from (region ∷ regions) (suc i) consecutive lt =
    let begins = consecutive.0 in
    let some = consecutive.1 in
    let more = stands_behind region.hi regions i consecutive.2 (omega arith) in
    let low = more.0 in
    (omega arith, more.1)

-- so one that begins where another ends stands right behind it
pub follows_at : (from : ℕ) (regions : List Region) (i j : ℕ) → IsConsecutive from regions → i < length regions → j < length regions → (get_or regions j blank).hi ≡ (get_or regions i blank).lo → i ≡ j + 1
follows_at from [] i j consecutive within below meets = absurd (omega arith)
follows_at from (region ∷ regions) zero j consecutive within below meets =
    let begins = consecutive.0 in
    let other = stands_behind from (region ∷ regions) j consecutive below in
    let low = other.0 in
    let some = other.1 in
    absurd (omega arith)
follows_at from (region ∷ regions) (suc zero) zero consecutive within below meets = omega arith
follows_at from (region ∷ []) (suc (suc i)) zero consecutive within below meets = absurd (omega arith)
follows_at from (region ∷ (next ∷ regions)) (suc (suc i)) zero consecutive within below meets =
    let begins = consecutive.2.0 in
    let some = consecutive.2.1 in
    let other = stands_behind next.hi regions i consecutive.2.2 (omega arith) in
    let low = other.0 in
    absurd (omega arith)
follows_at from (region ∷ regions) (suc i) (suc j) consecutive within below meets =
    let same = follows_at region.hi regions i j consecutive.2 (omega arith) (omega arith) meets in
    omega (arith, same)

-- the list in front of two, and the first of them
two_behind : (regions : List Region) (j : ℕ) → j + 1 < length regions → regions ≡ take j regions ++ get_or regions j blank ∷ (get_or regions (j + 1) blank ∷ drop (j + 2) regions)
two_behind regions j lt =
    let next : suc j ≡ j + 1 = omega arith in
    let after : suc (j + 1) ≡ j + 2 = omega arith in
    split_at regions j blank (omega arith) ∙ rw next (ap (λ rest. take j regions ++ get_or regions j blank ∷ rest) (rw after at (drop-cons regions (j + 1) blank lt)))

-- a part with another part's region in front of it
module _ (p q : ℕ) (regions : List Region) (are : AreRegions regions) (j : ℕ) (index : position (is_part p) regions ≡ Some (j + 1)) (other : (get_or regions j blank).place ≡ Part q) where
  abbrev front : Region
  front = get_or regions j blank

  abbrev part : Region
  part = get_or regions (j + 1) blank

  abbrev behind : List Region
  behind = drop (j + 2) regions

  within : j + 1 < length regions
  within = (here p regions are (j + 1) index).0

  taken : take (j + 1) regions ≡ take j regions ++ front ∷ []
  taken = let next : j + 1 ≡ suc j = omega arith in rw next (take-suc regions j blank (let lt = within in omega arith))

  after : drop (j + 1 + 1) regions ≡ behind
  after = let same : j + 1 + 1 ≡ j + 2 = omega arith in rw same refl

  -- the numbers of the parts in front, and of those behind
  front_parts : parts_of (take j regions) ++ q ∷ [] ≡ range_with_len 0 p
  front_parts =
      let all : parts_of (take (j + 1) regions) ≡ parts_of (take j regions) ++ q ∷ [] = ap parts_of taken ∙ parts_of-append (take j regions) (front ∷ []) ∙ rw other refl in
      sym all ∙ lower_parts p regions are (j + 1) index

  -- their numbers differ by one
  pub next_number : p ≡ q + 1
  next_number =
      let last = range_split 0 p q (parts_of (take j regions)) [] front_parts in
      let count : length (parts_of (take j regions)) + 1 ≡ p = sym (length-append _ _) ∙ (ap length front_parts ∙ length-range_with_len 0 p) in
      let own = last.0 in
      omega arith

  low_numbers : parts_of (lowered behind) ≡ range_with_len p (length (parts_of behind))
  low_numbers =
      let high : parts_of behind ≡ range_with_len (p + 1) (length (parts_of behind)) = rw after at (higher_parts p regions are (j + 1) index) in
      parts_of-lowered behind ∙ ap (map (λ n. n - 1)) high ∙ range_lowered p (length (parts_of behind))

  parts_after : parts_of (dissolved p regions) ≡ range_with_len 0 (p + length (parts_of behind))
  parts_after =
      let own : 0 + p ≡ p = omega arith in
      ap parts_of (dissolved_split p regions j index) ∙ parts_of-append (take j regions) _
      ∙ (rw (other, low_numbers) (sym (append_assoc (parts_of (take j regions)) (q ∷ []) _)))
      ∙ (ap (λ ns. ns ++ range_with_len p (length (parts_of behind))) front_parts ∙ rw own at (range_append 0 p (length (parts_of behind))))

  count_after : length (parts_of (dissolved p regions)) + 1 ≡ length (parts_of regions)
  count_after =
      let all : length (parts_of regions) ≡ p + 1 + length (parts_of behind) = rw after at (count_of_parts p regions are (j + 1) index) in
      omega (arith, (range_count 0 _ _ parts_after).1, all)

  pieces_after : pieces_of (dissolved p regions) ≡ pieces_of regions
  pieces_after =
      let first : pieces_of (take (j + 1) regions) ≡ pieces_of (take j regions) = ap pieces_of taken ∙ pieces_of-append (take j regions) (front ∷ []) ∙ rw other (append-nil _) in
      let all : pieces_of regions ≡ pieces_of (take j regions) ++ pieces_of behind = rw (first, after) at (all_pieces p regions are (j + 1) index) in
      ap pieces_of (dissolved_split p regions j index) ∙ pieces_of-append (take j regions) _ ∙ rw (other, pieces_of-lowered behind) (sym all)

  consecutive_after : IsConsecutive 1 (dissolved p regions)
  consecutive_after =
      rw (dissolved_split p regions j index) (consecutive_front 1 (take j regions) (front ∷ (part ∷ behind)) _
      (λ from consecutive.
      let some = consecutive.1 in
      let meets = consecutive.2.0 in
      let more = consecutive.2.1 in
      (consecutive.0, omega arith, consecutive-renumbered place_lowered part.hi behind consecutive.2.2))
      (subst (IsConsecutive 1) (two_behind regions j within) are.consecutive))

  regions_after : AreRegions (dissolved p regions)
  regions_after =
      let less = count_after in
      let few = are.few_parts in
      let some : 1 ≤ length (parts_of (dissolved p regions)) = omega (arith, (range_count 0 _ _ parts_after).1, next_number) in
      record {
        consecutive = consecutive_after;
        in_order = (range_count 0 _ _ parts_after).0;
        some_part = some;
        few_parts = omega arith;
        numbered = rw pieces_after are.numbered;
        distinct = rw pieces_after are.distinct;
      }

-- where the part in front of a part stands
module _ (p : ℕ) (regions : List Region) (answer : ℕ × ℕ × ℕ) (dissolve : IsDissolve p regions answer) (are : AreRegions regions) (i : ℕ) (index : position (is_part p) regions ≡ Some i) where
  same_part : get_or regions i blank ≡ dissolve.part
  same_part = let one : Some (get_or regions i blank) ≡ Some dissolve.part = sym (find_index (is_part p) regions i blank index) ∙ dissolve.found in cc

  front_at : (found : Option ℕ) → position (is_part (p - 1)) regions ≡ found → (i ≡ 1 + (i - 1)) × (position (is_part (p - 1)) regions ≡ Some (i - 1)) × (get_or regions (i - 1) blank ≡ dissolve.front)
  front_at None found = let none : Some dissolve.front ≡ None = sym dissolve.front_found ∙ find_none (is_part (p - 1)) regions found in absurd cc
  front_at (Some j) found =
      let one : Some (get_or regions j blank) ≡ Some dissolve.front = sym (find_index (is_part (p - 1)) regions j blank found) ∙ dissolve.front_found in
      let front : get_or regions j blank ≡ dissolve.front = cc in
      let meets : (get_or regions j blank).hi ≡ (get_or regions i blank).lo = rw (front, same_part) dissolve.meets in
      let next = follows_at 1 regions i j are.consecutive (here p regions are i index).0 (here (p - 1) regions are j found).0 meets in
      let less : i - 1 ≡ j = omega arith in
      (omega arith, rw less found, rw less front)

  front_stands : (i ≡ 1 + (i - 1)) × (position (is_part (p - 1)) regions ≡ Some (i - 1)) × (get_or regions (i - 1) blank ≡ dissolve.front)
  front_stands = front_at (position (is_part (p - 1)) regions) refl

  -- it isn't the first region, and the one in front of it is that of the part in front
  pub part_behind_front : 0 < i
  part_behind_front = let is = front_stands.0 in omega arith

  pub front_index : position (is_part (p - 1)) regions ≡ Some (i - 1)
  front_index = front_stands.1

  pub front_region : get_or regions (i - 1) blank ≡ dissolve.front
  front_region = front_stands.2

  pub part_region : get_or regions i blank ≡ dissolve.part
  part_region = same_part

  pub ranges_meet : (get_or regions (i - 1) blank).hi ≡ (get_or regions i blank).lo
  ranges_meet = rw (front_region, part_region) dissolve.meets

  next_index : position (is_part p) regions ≡ Some (i - 1 + 1)
  next_index = let same : i - 1 + 1 ≡ i = let is = front_stands.0 in omega arith in rw same index

  pub front_place : (get_or regions (i - 1) blank).place ≡ Part (p - 1)
  front_place = own_place (p - 1) regions are (i - 1) front_index

  -- a dissolve leaves regions of all s_ids
  pub regions-dissolved : AreRegions (dissolved p regions)
  regions-dissolved = regions_after p (p - 1) regions are (i - 1) next_index front_place
