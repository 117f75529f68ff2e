-- A slot that was split off comes back.
use Rattle.view_board.proofs.Common.{◌≡◌, ◌≢◌, ℕ, ◌+◌, ◌/◌, ◌<◌, max, List, length, get_or, set, replicate, Bool, true, false, ◌||◌, cond, refl, sym, subst, ◌∙◌, inl, inr, arith, or-false, cases_eq, get_or-set_same, get_or-set_other, get_or-replicate, length-replicate, ext_get_or, blank_at, View, SLOTS, SLOT_WORDS, WORDS, owned_at, Owns, OwnsAll, IsWide, alone, without, both, each_word}
use Rattle.view_board.proofs.JoinLemmas.{owned_by_both}
use Rattle.view_board.proofs.ListLemmas.{each_word_at, length-each_word, each_slot_at, length-each_slot, apart_by_slots}
use Rattle.view_board.proofs.SplitLemmas.{gone, only_slot}

-- of two desks one has all slots but one, and the other that one
pub whole_again : (v other : View) (slot : ℕ) → slot < SLOTS → v.owned ≡ set (replicate SLOTS true) slot false → other.owned ≡ set (replicate SLOTS false) slot true → OwnsAll (both v other)
whole_again v other slot in_board mine theirs s below = owned_by_both v other s below (elim (cases_eq s slot) [
  | inl same ↦ inr (rw (theirs, same) (get_or-set_same (replicate SLOTS false) slot true false (rw (length-replicate SLOTS false) in_board)))
  | inr else ↦ inl (rw mine (get_or-set_other (replicate SLOTS true) slot s false false else ∙ get_or-replicate SLOTS s true false below))
])

-- a number for each word that is the word of a list is that list
same_words : (words : List ℕ) (number : ℕ → ℕ) → length words ≡ WORDS → ((w : ℕ) → number w ≡ get_or words w 0) → each_word number ≡ words
same_words words number wide is = ext_get_or 0 (each_word number) words (length-each_word number ∙ sym wide)
    (λ w below. each_word_at number w (omega (arith, length-each_word number)) ∙ is w)

-- a number that is the same either way
either_way : (test : Bool) (n : ℕ) → cond test n n ≡ n
either_way true n = refl
either_way false n = refl

-- a slot that is split off and joined again leaves what the desk knows
module _ (v : View) (slot : ℕ) (wide : IsWide v) (in_board : slot < SLOTS) (own : Owns v slot) where
  given_up : owned_at (without v slot) slot ≡ false
  given_up = get_or-set_same v.owned slot false false (omega (arith, wide.slots))

  handed_on : owned_at (alone v slot) slot ≡ true
  handed_on = get_or-set_same (replicate SLOTS false) slot true false (rw (length-replicate SLOTS false) in_board)

  not_handed_on : (s : ℕ) → s ≢ slot → owned_at (alone v slot) s ≡ false
  not_handed_on s other = get_or-set_other (replicate SLOTS false) slot s true false other ∙ blank_at SLOTS s false

  flag_again : (s : ℕ) → (owned_at (without v slot) s || owned_at (alone v slot) s) ≡ owned_at v s
  flag_again s = elim (cases_eq s slot) [
    | inl same ↦ rw (same, given_up, handed_on) (sym own)
    | inr other ↦ rw (not_handed_on s other) (or-false (owned_at (without v slot) s) ∙ get_or-set_other v.owned slot s false false other)
  ]

  slots_again : (both (without v slot) (alone v slot)).owned ≡ v.owned
  slots_again = ext_get_or false (both (without v slot) (alone v slot)).owned v.owned (length-each_slot (λ s. owned_at (without v slot) s || owned_at (alone v slot) s) ∙ sym wide.slots)
      (λ s below. let within : s < SLOTS = omega (arith, length-each_slot (λ s. owned_at (without v slot) s || owned_at (alone v slot) s)) in
      each_slot_at (λ s. owned_at (without v slot) s || owned_at (alone v slot) s) s within ∙ flag_again s)

  pub again : v.was_apart ≡ true → both (without v slot) (alone v slot) ≡ v
  again was_apart =
      let numbers = same_words v.numbers (λ w. cond (owned_at (alone v slot) (w / SLOT_WORDS)) (get_or v.numbers w 0) (get_or v.numbers w 0)) wide.numbers (λ w. either_way (owned_at (alone v slot) (w / SLOT_WORDS)) (get_or v.numbers w 0)) in
      let seen = same_words v.seen (λ w. max (get_or v.seen w 0) (get_or v.seen w 0)) wide.seen (λ w. omega arith) in
      let count : v.raises + 0 ≡ v.raises = omega arith in
      let apart = apart_by_slots (without v slot).owned (alone v slot).owned (λ s mine theirs. gone v slot (subst (Owns (without v slot)) (only_slot v slot s theirs) mine)) in
      rw (slots_again, numbers, seen, count, apart, ← was_apart) refl
