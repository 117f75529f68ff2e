-- The moves of a re-cut, one bound after another.
use Rattle.part_table.proofs.Common.{◌≡◌, ◌∙◌, refl, sym, ap, ℕ, zero, suc, ◌+◌, ◌-◌, ◌<◌, ◌≤◌, List, [], ◌∷◌, ◌++◌, Bool, true, false, length, get_or, drop, append_assoc, append-nil, length-append, add-one, arith, nat_lt, if◌then◌else◌, nat_tests, drop_more, drop_all, get_or-map, length-map, length-drop, LAST_SUBSCRIBER, are_rising, bounds_of, rising_moves, falling_moves, CutMove, Region}
use Rattle.part_table.proofs.BoundsLemmas.{rising_first}

-- a bound is where the region behind it begins
pub bound_at : (regions : List Region) (i : ℕ) (d : Region) → i + 1 < length regions → get_or (bounds_of regions) i 0 ≡ (get_or regions (i + 1) d).lo
bound_at [] i d within = absurd (omega arith)
bound_at (region ∷ regions) i d within = get_or-map (λ r. r.lo) regions i d 0 (omega arith) ∙ rw add-one refl

pub length_bounds : (regions : List Region) (n : ℕ) → n + 1 ≡ length regions → length (bounds_of regions) ≡ n
length_bounds [] n some = absurd (omega arith)
length_bounds (region ∷ regions) n some = rw (length-map regions (λ r. r.lo)) (omega arith)

-- a rising bound is at most the last s_id
pub bound_in_range : (low : ℕ) (bounds : List ℕ) (i : ℕ) → i < length bounds → are_rising low bounds ≡ true → get_or bounds i 0 ≤ LAST_SUBSCRIBER
bound_in_range low [] i within rising = absurd (omega arith)
bound_in_range low (bound ∷ bounds) zero within rising = (rising_first low bound bounds rising).1
bound_in_range low (bound ∷ bounds) (suc i) within rising = bound_in_range bound bounds i (omega arith) (rising_first low bound bounds rising).2

-- the move of one bound, where it has to move
abbrev pub move_if : Bool → ℕ → ℕ → ℕ → List CutMove
move_if test i from to = if test then record { bound = i; from = from; to = to } ∷ [] else []

-- the moves of the bounds from one on
abbrev pub rising_left : ℕ → List ℕ → List ℕ → List CutMove
rising_left i froms tos = rising_moves i (drop (i - 1) froms) (drop (i - 1) tos)

abbrev pub falling_left : ℕ → List ℕ → List ℕ → List CutMove
falling_left i froms tos = falling_moves i (drop (i - 1) froms) (drop (i - 1) tos)

-- of these the one of the first bound, and the others
pub rising_more : (froms tos : List ℕ) (i : ℕ) → 1 ≤ i → i - 1 < length froms → length froms ≡ length tos
    → rising_left i froms tos ≡ rising_left (i + 1) froms tos ++ move_if (nat_lt (get_or froms (i - 1) 0) (get_or tos (i - 1) 0)) i (get_or froms (i - 1) 0) (get_or tos (i - 1) 0)
rising_more froms tos i some within same =
    let one = drop_more froms (i - 1) 0 within in
    let two = drop_more tos (i - 1) 0 (omega arith) in
    let next : i + 1 - 1 ≡ i - 1 + 1 = omega arith in
    rw (one, two, next) refl

pub falling_more : (froms tos : List ℕ) (i : ℕ) → 1 ≤ i → i - 1 < length froms → length froms ≡ length tos
    → falling_left i froms tos ≡ move_if (nat_lt (get_or tos (i - 1) 0) (get_or froms (i - 1) 0)) i (get_or froms (i - 1) 0) (get_or tos (i - 1) 0) ++ falling_left (i + 1) froms tos
falling_more froms tos i some within same =
    let one = drop_more froms (i - 1) 0 within in
    let two = drop_more tos (i - 1) 0 (omega arith) in
    let next : i + 1 - 1 ≡ i - 1 + 1 = omega arith in
    rw (one, two, next) refl

-- behind the last bound
pub rising_none : (froms tos : List ℕ) (i : ℕ) → length froms ≤ i - 1 → rising_left i froms tos ≡ []
rising_none froms tos i past = let none = drop_all (i - 1) froms past in rw none refl

pub falling_none : (froms tos : List ℕ) (i : ℕ) → length froms ≤ i - 1 → falling_left i froms tos ≡ []
falling_none froms tos i past = let none = drop_all (i - 1) froms past in rw none refl

-- each bound moves once at most
length_one : (test other : Bool) (i from to : ℕ) → (test ≡ true → other ≡ false) → length (move_if test i from to) + length (move_if other i from to) ≤ 1
length_one true true i from to apart = let no_two : true ≡ false = apart refl in absurd cc
length_one true false i from to apart = omega arith
length_one false true i from to apart = omega arith
length_one false false i from to apart = omega arith

pub length_moves : (i : ℕ) (froms tos : List ℕ) → length (rising_moves i froms tos) + length (falling_moves i froms tos) ≤ length froms
length_moves i [] tos = omega arith
length_moves i (from ∷ froms) [] = omega arith
length_moves i (from ∷ froms) (to ∷ tos) =
    let rest = length_moves (i + 1) froms tos in
    let one = length_one (nat_lt from to) (nat_lt to from) i from to (λ e. grind (arith, nat_tests)) in
    let up = length-append (rising_moves (i + 1) froms tos) (move_if (nat_lt from to) i from to) in
    let down = length-append (move_if (nat_lt to from) i from to) (falling_moves (i + 1) froms tos) in
    omega (arith, rest, one, up, down)

module _ (regions : List Region) (bounds : List ℕ) (d : Region) (count : length bounds + 1 ≡ length regions) where
  same_length : length (bounds_of regions) ≡ length bounds
  same_length = length_bounds regions (length bounds) count

  -- the bounds that rise are looked at from the last down
  rising_back : (i : ℕ) → 1 < i → i ≤ length regions
      → rising_left (i - 1) (bounds_of regions) bounds ≡ rising_left i (bounds_of regions) bounds
      ++ move_if (nat_lt (get_or regions (i - 1) d).lo (get_or bounds (i - 1 - 1) 0)) (i - 1) (get_or regions (i - 1) d).lo (get_or bounds (i - 1 - 1) 0)
  rising_back i some within =
      let place : i - 1 - 1 + 1 ≡ i - 1 = omega arith in
      let from = bound_at regions (i - 1 - 1) d (omega arith) in
      let begins = rw place at from in
      let back : i - 1 + 1 ≡ i = omega arith in
      let more = rising_more (bounds_of regions) bounds (i - 1) (omega arith) (omega (arith, same_length)) same_length in
      rw (back, begins) at more

  pub rising_last : rising_left (length regions) (bounds_of regions) bounds ≡ []
  rising_last = rising_none (bounds_of regions) bounds (length regions) (omega (arith, same_length))

  pub one_rises : (i : ℕ) (list : List CutMove) → 1 < i → i ≤ length regions → (get_or regions (i - 1) d).lo < get_or bounds (i - 1 - 1) 0 → list ≡ rising_left i (bounds_of regions) bounds
      → list ++ record { bound = i - 1; from = (get_or regions (i - 1) d).lo; to = get_or bounds (i - 1 - 1) 0 } ∷ [] ≡ rising_left (i - 1) (bounds_of regions) bounds
  one_rises i list some within up so_far =
      let test : nat_lt (get_or regions (i - 1) d).lo (get_or bounds (i - 1 - 1) 0) ≡ true = grind (arith, nat_tests) in
      let back = rw test at (rising_back i some within) in
      rw so_far (sym back)

  pub one_stays : (i : ℕ) (list : List CutMove) → 1 < i → i ≤ length regions → get_or bounds (i - 1 - 1) 0 ≤ (get_or regions (i - 1) d).lo → list ≡ rising_left i (bounds_of regions) bounds
      → list ≡ rising_left (i - 1) (bounds_of regions) bounds
  one_stays i list some within stays so_far =
      let test : nat_lt (get_or regions (i - 1) d).lo (get_or bounds (i - 1 - 1) 0) ≡ false = grind (arith, nat_tests) in
      let back = rw test at (rising_back i some within) in
      so_far ∙ sym (back ∙ append-nil (rising_left i (bounds_of regions) bounds))

  -- there is room for each
  pub rising_room : (i : ℕ) (list : List CutMove) → 1 < i → i ≤ length regions → length bounds ≤ 15 → list ≡ rising_left i (bounds_of regions) bounds → length list < 15
  rising_room i list some within few so_far =
      let all = length_moves i (drop (i - 1) (bounds_of regions)) (drop (i - 1) bounds) in
      let left = length-drop (i - 1) (bounds_of regions) in
      let same = ap length so_far in
      omega (arith, all, left, same, same_length)

  -- a bound that rises or falls fits
  pub bound_fits : (i : ℕ) → i + 1 < length regions → are_rising 1 bounds ≡ true → get_or bounds i 0 < 4294967296
  bound_fits i within rising = let most = bound_in_range 1 bounds i (omega arith) rising in omega (arith, most)

  -- the bounds that fall are looked at from the first up
  falling_next : (i : ℕ) → 1 ≤ i → i < length regions
      → falling_left i (bounds_of regions) bounds ≡ move_if (nat_lt (get_or bounds (i - 1) 0) (get_or regions i d).lo) i (get_or regions i d).lo (get_or bounds (i - 1) 0)
      ++ falling_left (i + 1) (bounds_of regions) bounds
  falling_next i some within =
      let place : i - 1 + 1 ≡ i = omega arith in
      let from = bound_at regions (i - 1) d (omega arith) in
      let begins = rw place at from in
      let more = falling_more (bounds_of regions) bounds i some (omega (arith, same_length)) same_length in
      rw begins at more

  pub one_falls : (i : ℕ) (list whole : List CutMove) → 1 ≤ i → i < length regions → get_or bounds (i - 1) 0 < (get_or regions i d).lo → list ++ falling_left i (bounds_of regions) bounds ≡ whole
      → (list ++ record { bound = i; from = (get_or regions i d).lo; to = get_or bounds (i - 1) 0 } ∷ []) ++ falling_left (i + 1) (bounds_of regions) bounds ≡ whole
  one_falls i list whole some within down so_far =
      let test : nat_lt (get_or bounds (i - 1) 0) (get_or regions i d).lo ≡ true = grind (arith, nat_tests) in
      let next = rw test at (falling_next i some within) in
      append_assoc list (record { bound = i; from = (get_or regions i d).lo; to = get_or bounds (i - 1) 0 } ∷ []) (falling_left (i + 1) (bounds_of regions) bounds) ∙ (ap (λ left. list ++ left) (sym next) ∙ so_far)

  pub one_holds : (i : ℕ) (list whole : List CutMove) → 1 ≤ i → i < length regions → (get_or regions i d).lo ≤ get_or bounds (i - 1) 0 → list ++ falling_left i (bounds_of regions) bounds ≡ whole
      → list ++ falling_left (i + 1) (bounds_of regions) bounds ≡ whole
  one_holds i list whole some within holds so_far =
      let test : nat_lt (get_or bounds (i - 1) 0) (get_or regions i d).lo ≡ false = grind (arith, nat_tests) in
      let next = rw test at (falling_next i some within) in
      ap (λ left. list ++ left) (sym next) ∙ so_far

  pub falling_room : (i : ℕ) (list whole : List CutMove) → 1 ≤ i → i < length regions → get_or bounds (i - 1) 0 < (get_or regions i d).lo → list ++ falling_left i (bounds_of regions) bounds ≡ whole
      → length whole ≤ 15 → length list < 15
  falling_room i list whole some within down so_far few =
      let test : nat_lt (get_or bounds (i - 1) 0) (get_or regions i d).lo ≡ true = grind (arith, nat_tests) in
      let next = rw test at (falling_next i some within) in
      let sum = length-append list (falling_left i (bounds_of regions) bounds) in
      let same = ap length so_far in
      let one = ap length next in
      omega (arith, sum, same, one)

  pub falling_last : (i : ℕ) (list whole : List CutMove) → length regions ≤ i → list ++ falling_left i (bounds_of regions) bounds ≡ whole → list ≡ whole
  falling_last i list whole past so_far =
      let none = falling_none (bounds_of regions) bounds i (omega (arith, same_length)) in
      sym (append-nil list) ∙ (rw none at so_far)
