-- The lower of each cell's two words is raised to the higher, cell by cell.
use Rattle.view_board.proofs.Common.{◌≡◌, ◌≢◌, ◌⊎◌, ℕ, zero, suc, ◌+◌, ◌/◌, ◌%◌, ◌<◌, ◌≤◌, ◌==◌, nat_lt, max, not, Bool, true, false, if◌then◌else◌, List, length, get_or, refl, sym, ap, ◌∙◌, inl, inr, arith, ℤ, pos, negsuc, count_by, range_with_len, ints, cases_eq, nat_tests, length-set, get_or-set_same, get_or-set_other, ext_get_or, sum_by-cons, by_test, View, SLOTS, CELLS, SLOT_WORDS, WORDS, wanting, posted, taken_back, plus_word, minus_word, twin_of, raised_by, raises_of, leveled}
use Rattle.view_board.specs.Words.{uneven_cells}
use Rattle.view_board.proofs.ListLemmas.{each_word_at, length-each_word}

-- the two words of a cell are each other's twins
pub twin_of_plus : (slot c : ℕ) → c < CELLS → twin_of (plus_word slot c) ≡ minus_word slot c
twin_of_plus slot c in_slot =
    let low : nat_lt (plus_word slot c % SLOT_WORDS) CELLS ≡ true = grind (arith, nat_tests) in
    rw low (omega arith)

pub twin_of_minus : (slot c : ℕ) → c < CELLS → twin_of (minus_word slot c) ≡ plus_word slot c
twin_of_minus slot c in_slot =
    let high : nat_lt (minus_word slot c % SLOT_WORDS) CELLS ≡ false = grind (arith, nat_tests) in
    rw high (omega arith)

-- a word of a slot is the plus-word or the minus-word of its cell
either_word : (slot w : ℕ) → w / SLOT_WORDS ≡ slot → (w ≡ plus_word slot (w % CELLS)) ⊎ (w ≡ minus_word slot (w % CELLS))
either_word slot w own = by_test (nat_lt (w % SLOT_WORDS) CELLS) (λ low. inl (grind (arith, nat_tests))) (λ high. inr (grind (arith, nat_tests)))

-- one cell's words, whatever amount is the one that is wanting
module _ (words : List ℕ) (slot c : ℕ) (in_board : slot < SLOTS) (in_slot : c < CELLS) (wide : length words ≡ WORDS) where
  -- the plus-word is the greater of the two then, and so is the minus-word
  plus_leveled : (amount : ℤ) → amount ≡ wanting words slot c → get_or (raised_by words slot c amount) (plus_word slot c) 0 ≡ max (get_or words (plus_word slot c) 0) (get_or words (minus_word slot c) 0)
  plus_leveled (pos n) is = rw (get_or-set_same words (plus_word slot c) (get_or words (plus_word slot c) 0 + n) 0 (omega arith)) (omega (arith, ints))
  plus_leveled (negsuc n) is = rw (get_or-set_other words (minus_word slot c) (plus_word slot c) (get_or words (minus_word slot c) 0 + suc n) 0 (λ e. absurd (omega arith))) (omega (arith, ints))

  minus_leveled : (amount : ℤ) → amount ≡ wanting words slot c → get_or (raised_by words slot c amount) (minus_word slot c) 0 ≡ max (get_or words (minus_word slot c) 0) (get_or words (plus_word slot c) 0)
  minus_leveled (pos n) is = rw (get_or-set_other words (plus_word slot c) (minus_word slot c) (get_or words (plus_word slot c) 0 + n) 0 (λ e. absurd (omega arith))) (omega (arith, ints))
  minus_leveled (negsuc n) is = rw (get_or-set_same words (minus_word slot c) (get_or words (minus_word slot c) 0 + suc n) 0 (omega arith)) (omega (arith, ints))

  -- no other word is raised
  others_stay : (amount : ℤ) (w : ℕ) → w ≢ plus_word slot c → w ≢ minus_word slot c → get_or (raised_by words slot c amount) w 0 ≡ get_or words w 0
  others_stay (pos n) w plus minus = get_or-set_other words (plus_word slot c) w (get_or words (plus_word slot c) 0 + n) 0 plus
  others_stay (negsuc n) w plus minus = get_or-set_other words (minus_word slot c) w (get_or words (minus_word slot c) 0 + suc n) 0 minus

  length-raised : (amount : ℤ) → length (raised_by words slot c amount) ≡ WORDS
  length-raised (pos n) = length-set words _ _ ∙ wide
  length-raised (negsuc n) = length-set words _ _ ∙ wide

-- whether the two words of a cell differ
abbrev differ_at : List ℕ → ℕ → ℕ → Bool
differ_at words slot c = not (get_or words (plus_word slot c) 0 == get_or words (minus_word slot c) 0)

-- it takes one step where the two words of a cell differ, and none where they don't
steps_of : (words : List ℕ) (slot c : ℕ) (amount : ℤ) → amount ≡ wanting words slot c → raises_of amount ≡ (if differ_at words slot c then 1 else 0)
steps_of words slot c (pos zero) is = let same : (get_or words (plus_word slot c) 0 == get_or words (minus_word slot c) 0) ≡ true = grind (arith, nat_tests, ints, is) in rw same refl
steps_of words slot c (pos (suc n)) is = let same : (get_or words (plus_word slot c) 0 == get_or words (minus_word slot c) 0) ≡ false = grind (arith, nat_tests, ints, is) in rw same refl
steps_of words slot c (negsuc n) is = let same : (get_or words (plus_word slot c) 0 == get_or words (minus_word slot c) 0) ≡ false = grind (arith, nat_tests, ints, is) in rw same refl

-- what a word is in the leveled words
abbrev pub level_of : ℕ → List ℕ → ℕ → ℕ
level_of slot words w = if w / SLOT_WORDS == slot then max (get_or words w 0) (get_or words (twin_of w) 0) else get_or words w 0

-- the cells of a slot in front of one were leveled: their words have the greater value of the two, the others are as at
-- the start, and there was a step for each of these cells in which the two words differed
pub record IsLevelTo (slot : ℕ) (start now : View) (n : ℕ) : Type 0 where
  pub view : now ≡ record start { numbers = now.numbers; raises = now.raises }
  pub wide : length now.numbers ≡ WORDS
  pub here : (w : ℕ) → w / SLOT_WORDS ≡ slot → w % CELLS < n → get_or now.numbers w 0 ≡ max (get_or start.numbers w 0) (get_or start.numbers (twin_of w) 0)
  pub ahead : (w : ℕ) → (w / SLOT_WORDS ≡ slot → n ≤ w % CELLS) → get_or now.numbers w 0 ≡ get_or start.numbers w 0
  pub steps : (left : ℕ) → n + left ≡ CELLS → now.raises + count_by (differ_at start.numbers slot) (range_with_len n left) ≡ start.raises + uneven_cells slot start.numbers

module _ (slot : ℕ) (start : View) where
  pub none_level : length start.numbers ≡ WORDS → IsLevelTo slot start start 0
  unfolding uneven_cells
  none_level wide = record {
    view = refl;
    wide = wide;
    here = λ w own near. absurd (omega arith);
    ahead = λ w from. refl;
    steps = λ left whole. let all : left ≡ CELLS = omega arith in rw all refl;
  }

  -- one cell is leveled
  module _ (now : View) (n : ℕ) (in_board : slot < SLOTS) (in_slot : n < CELLS) (so_far : IsLevelTo slot start now n) where
    abbrev amount : ℤ
    amount = wanting now.numbers slot n

    abbrev after : List ℕ
    after = raised_by now.numbers slot n amount

    plus_is : get_or now.numbers (plus_word slot n) 0 ≡ get_or start.numbers (plus_word slot n) 0
    plus_is = so_far.ahead (plus_word slot n) (λ own. omega arith)

    minus_is : get_or now.numbers (minus_word slot n) 0 ≡ get_or start.numbers (minus_word slot n) 0
    minus_is = so_far.ahead (minus_word slot n) (λ own. omega arith)

    here_after : (w : ℕ) → w / SLOT_WORDS ≡ slot → w % CELLS < n + 1 → get_or after w 0 ≡ max (get_or start.numbers w 0) (get_or start.numbers (twin_of w) 0)
    here_after w own near = elim (cases_eq (w % CELLS) n) [
      | inl same ↦ (elim (either_word slot w own) [
        | inl plus ↦ (let is : w ≡ plus_word slot n = plus ∙ ap (plus_word slot) same in
            rw (is, twin_of_plus slot n in_slot, ← plus_is, ← minus_is) (plus_leveled now.numbers slot n in_board in_slot so_far.wide amount refl))
        | inr minus ↦ (let is : w ≡ minus_word slot n = minus ∙ ap (minus_word slot) same in
            rw (is, twin_of_minus slot n in_slot, ← plus_is, ← minus_is) (minus_leveled now.numbers slot n in_board in_slot so_far.wide amount refl))
      ])
      | inr other ↦ others_stay now.numbers slot n in_board in_slot so_far.wide amount w (λ e. other (omega arith)) (λ e. other (omega arith)) ∙ so_far.here w own (omega arith)
    ]

    steps_after : (left : ℕ) → n + 1 + left ≡ CELLS → now.raises + raises_of amount + count_by (differ_at start.numbers slot) (range_with_len (n + 1) left) ≡ start.raises + uneven_cells slot start.numbers
    steps_after left whole =
        let before = so_far.steps (suc left) (omega arith) in
        let one : raises_of amount ≡ (if differ_at start.numbers slot n then 1 else 0) = rw (← plus_is, ← minus_is) (steps_of now.numbers slot n amount refl) in
        let first = sum_by-cons (λ (k : ℕ). if differ_at start.numbers slot k then 1 else 0) n (range_with_len (n + 1) left) in
        omega arith

    pub one_level : IsLevelTo slot start (posted now slot n (wanting now.numbers slot n)) (n + 1)
    one_level = record {
      view = ap (λ (v : View). posted v slot n amount) so_far.view;
      wide = length-raised now.numbers slot n in_board in_slot so_far.wide amount;
      here = here_after;
      ahead = λ w from. others_stay now.numbers slot n in_board in_slot so_far.wide amount w (λ e. absurd (omega arith)) (λ e. absurd (omega arith)) ∙ so_far.ahead w (λ own. let next = from own in omega arith);
      steps = steps_after;
    }

  -- after the last cell
  pub all_level : (now : View) (n : ℕ) → IsLevelTo slot start now n → CELLS ≤ n → n ≤ CELLS → now ≡ taken_back start slot
  all_level now n so_far end most =
      let steps = so_far.steps 0 (omega arith) in
      let count : now.raises ≡ start.raises + uneven_cells slot start.numbers = omega arith in
      let level : now.numbers ≡ leveled slot start.numbers = ext_get_or 0 now.numbers (leveled slot start.numbers) (so_far.wide ∙ sym (length-each_word (level_of slot start.numbers)))
      (λ w below. level_at w ∙ sym (each_word_at (level_of slot start.numbers) w (omega (arith, so_far.wide)))) in
      so_far.view ∙ rw (level, count) refl
    where
      level_at : (w : ℕ) → get_or now.numbers w 0 ≡ level_of slot start.numbers w
      level_at w = by_test (w / SLOT_WORDS == slot)
          (λ same. rw same (so_far.here w (grind (arith, nat_tests)) (omega arith)))
          (λ other. rw other (so_far.ahead w (λ own. absurd (grind (arith, nat_tests)))))
