-- Lists of words, flags and views.
use Rattle.view_board.proofs.Common.{◌≡◌, ◌⊎◌, ℕ, zero, suc, ◌<◌, List, [], ◌∷◌, ◌++◌, length, get_or, set, Bool, true, false, refl, sym, ap, subst, ◌∙◌, inl, inr, arith, cases_lt, cases_eq, false≢true, get_or-set_same, get_or-set_other, get_or_past, length-set, get_or-map-range_with_len, length-map-range_with_len, SLOTS, WORDS}
use mathlib.Core.Option.{some, some-injective, some-ne-none}
use lib.ListN.{get_elem?}
use Rattle.view_board.specs.Words.{each_word, each_slot}
use Rattle.view_board.specs.Views.{are_apart}

-- what holds of the new element and of the old ones holds of each
pub after_set : (P : ℕ → Type 0) (xs : List ℕ) (i n w : ℕ) → (w ≡ i → P n) → P (get_or xs w 0) → P (get_or (set xs i n) w 0)
after_set P xs i n w new old = elim (cases_eq w i) [
  | inl same ↦ (elim (cases_lt w (length xs)) [
    | inl within ↦ (let is : get_or (set xs i n) w 0 ≡ n = rw same (get_or-set_same xs i n 0 (omega arith)) in subst P (sym is) (new same))
    | inr past ↦ subst P (get_or_past xs w 0 past ∙ sym (get_or_past (set xs i n) w 0 (rw length-set past))) old
  ])
  | inr other ↦ subst P (sym (get_or-set_other xs i w n 0 other)) old
]

-- a number for each word, read at a word
pub each_word_at : (number : ℕ → ℕ) (w : ℕ) → w < WORDS → get_or (each_word number) w 0 ≡ number w
unfolding each_word
each_word_at number w below = get_or-map-range_with_len number 0 WORDS w w 0 below (omega arith)

pub length-each_word : (number : ℕ → ℕ) → length (each_word number) ≡ WORDS
unfolding each_word
length-each_word number = length-map-range_with_len number 0 WORDS

-- a flag for each slot, read at a slot
pub each_slot_at : (flag : ℕ → Bool) (slot : ℕ) → slot < SLOTS → get_or (each_slot flag) slot false ≡ flag slot
unfolding each_slot
each_slot_at flag slot below = get_or-map-range_with_len flag 0 SLOTS slot slot false below (omega arith)

pub length-each_slot : (flag : ℕ → Bool) → length (each_slot flag) ≡ SLOTS
unfolding each_slot
length-each_slot flag = length-map-range_with_len flag 0 SLOTS

-- a flag that is set is one of the list
pub set_within : (flags : List Bool) (slot : ℕ) → get_or flags slot false ≡ true → slot < length flags
set_within flags slot is = elim (cases_lt slot (length flags)) [
  | inl within ↦ within
  | inr past ↦ absurd (false≢true (sym (get_or_past flags slot false past) ∙ is))
]

-- no slot is in both, one by one
pub apart_at : (flags others : List Bool) (slot : ℕ) → are_apart flags others ≡ true → get_or flags slot false ≡ true → get_or others slot false ≡ true → ⊥
unfolding are_apart
apart_at [] others slot apart mine theirs = false≢true mine
apart_at (flag ∷ flags) [] slot apart mine theirs = false≢true theirs
apart_at (true ∷ flags) (true ∷ others) zero apart mine theirs = false≢true apart
apart_at (true ∷ flags) (false ∷ others) zero apart mine theirs = false≢true theirs
apart_at (false ∷ flags) (other ∷ others) zero apart mine theirs = false≢true mine
apart_at (true ∷ flags) (true ∷ others) (suc slot) apart mine theirs = absurd (false≢true apart)
apart_at (true ∷ flags) (false ∷ others) (suc slot) apart mine theirs = apart_at flags others slot apart mine theirs
apart_at (false ∷ flags) (other ∷ others) (suc slot) apart mine theirs = apart_at flags others slot apart mine theirs

pub apart_by_slots : (flags others : List Bool) → ((slot : ℕ) → get_or flags slot false ≡ true → get_or others slot false ≡ true → ⊥) → are_apart flags others ≡ true
unfolding are_apart
apart_by_slots [] others none = refl
apart_by_slots (flag ∷ flags) [] none = refl
apart_by_slots (true ∷ flags) (true ∷ others) none = absurd (none 0 refl refl)
apart_by_slots (true ∷ flags) (false ∷ others) none = apart_by_slots flags others (λ slot. none (suc slot))
apart_by_slots (false ∷ flags) (other ∷ others) none = apart_by_slots flags others (λ slot. none (suc slot))

-- what stands in a list with one more at its end
pub at_end : {A : Type 0} (xs : List A) (x y : A) (j : ℕ) → get_elem? (xs ++ x ∷ []) j ≡ some y → (get_elem? xs j ≡ some y) ⊎ ((j ≡ length xs) × (x ≡ y))
at_end [] x y zero e = inr (refl, some-injective x y e)
at_end [] x y (suc j) e = absurd (some-ne-none y (sym e))
at_end (first ∷ xs) x y zero e = inl e
at_end (first ∷ xs) x y (suc j) e = elim (at_end xs x y j e) [
  | inl there ↦ inl there
  | inr last ↦ inr (ap suc last.0, last.1)
]

-- what is found at a place is read there
pub found_at : {A : Type 0} (xs : List A) (i : ℕ) (x d : A) → get_elem? xs i ≡ some x → get_or xs i d ≡ x
found_at [] i x d e = absurd (some-ne-none x (sym e))
found_at (first ∷ xs) zero x d e = some-injective first x e
found_at (first ∷ xs) (suc i) x d e = found_at xs i x d e
