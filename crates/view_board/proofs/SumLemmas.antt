-- The net of two desks as one, and of one as two.
use Rattle.view_board.proofs.Common.{◌≡◌, ◌≢◌, ℕ, suc, ◌+◌, ◌/◌, ◌<◌, ◌||◌, List, [], ◌∷◌, length, get_or, replicate, Bool, true, false, refl, sym, subst, ◌∙◌, inl, inr, arith, ◌+ℤ◌, ints, cases_eq, false≢true, length-set, length-replicate, get_or-set_same, get_or-set_other, blank_at, View, SLOTS, SLOT_WORDS, plus_word, minus_word, slot_net, owned_at, Owns, IsWide, both, alone, without, slots_of_both, NetAdds}
use Rattle.view_board.specs.Nets.{net_from}
use Rattle.view_board.proofs.ListLemmas.{set_within, each_slot_at, length-each_slot}
use Rattle.view_board.proofs.JoinLemmas.{number_theirs, number_ours, not_theirs}

-- the flags of a whole are those of two, of which no slot has both
module _ (words others whole : List ℕ) (cell : ℕ) where
  pub nets_add : (mine theirs all : List Bool) (start : ℕ) → length theirs ≡ length mine → length all ≡ length mine
      → ((k : ℕ) → k < length mine → get_or all k false ≡ (get_or mine k false || get_or theirs k false))
      → ((k : ℕ) → get_or mine k false ≡ true → get_or theirs k false ≡ true → ⊥)
      → ((k : ℕ) → get_or mine k false ≡ true → slot_net whole cell (start + k) ≡ slot_net words cell (start + k))
      → ((k : ℕ) → get_or theirs k false ≡ true → slot_net whole cell (start + k) ≡ slot_net others cell (start + k))
      → net_from all start whole cell ≡ net_from mine start words cell +ℤ net_from theirs start others cell
  unfolding net_from
  nets_add [] [] [] start wide wide_all split apart of_mine of_theirs = refl
  nets_add [] (b ∷ theirs) all start wide wide_all split apart of_mine of_theirs = absurd (omega arith)
  nets_add [] [] (h ∷ all) start wide wide_all split apart of_mine of_theirs = absurd (omega arith)
  nets_add (a ∷ mine) [] all start wide wide_all split apart of_mine of_theirs = absurd (omega arith)
  nets_add (a ∷ mine) (b ∷ theirs) [] start wide wide_all split apart of_mine of_theirs = absurd (omega arith)
  nets_add (a ∷ mine) (b ∷ theirs) (h ∷ all) start wide wide_all split apart of_mine of_theirs =
      let rest = nets_add mine theirs all (start + 1) (omega arith) (omega arith) (λ k below. split (suc k) (omega arith)) (λ k. apart (suc k))
      (λ k own. subst (λ (s : ℕ). slot_net whole cell s ≡ slot_net words cell s) (omega arith) (of_mine (suc k) own))
      (λ k own. subst (λ (s : ℕ). slot_net whole cell s ≡ slot_net others cell s) (omega arith) (of_theirs (suc k) own)) in
      head a b h (split 0 (omega arith)) (apart 0) (λ own. subst (λ (s : ℕ). slot_net whole cell s ≡ slot_net words cell s) (omega arith) (of_mine 0 own)) (λ own. subst (λ (s : ℕ). slot_net whole cell s ≡ slot_net others cell s) (omega arith) (of_theirs 0 own)) rest
    where
      head : (a b h : Bool) → h ≡ (a || b) → (a ≡ true → b ≡ true → ⊥) → (a ≡ true → slot_net whole cell start ≡ slot_net words cell start) → (b ≡ true → slot_net whole cell start ≡ slot_net others cell start)
          → net_from all (start + 1) whole cell ≡ net_from mine (start + 1) words cell +ℤ net_from theirs (start + 1) others cell
          → net_from (h ∷ all) start whole cell ≡ net_from (a ∷ mine) start words cell +ℤ net_from (b ∷ theirs) start others cell
      head true true h is apart of_mine of_theirs rest = absurd (apart refl refl)
      head true false h is apart of_mine of_theirs rest = let here = of_mine refl in rw is (omega (arith, ints, here, rest))
      head false true h is apart of_mine of_theirs rest = let here = of_theirs refl in rw is (omega (arith, ints, here, rest))
      head false false h is apart of_mine of_theirs rest = rw is (omega (arith, ints, rest))

-- two desks of which no slot is both's
pub net_both : (v other : View) → IsWide v → IsWide other → ((slot : ℕ) → Owns v slot → Owns other slot → ⊥) → NetAdds (both v other) v other
net_both v other wide other_wide apart c below =
    nets_add v.numbers other.numbers (both v other).numbers c v.owned other.owned (slots_of_both v.owned other.owned) 0 (other_wide.slots ∙ sym wide.slots)
    (length-each_slot (λ s. owned_at v s || owned_at other s) ∙ sym wide.slots)
    (λ k within. each_slot_at (λ s. owned_at v s || owned_at other s) k (omega (arith, wide.slots)))
    apart
    (λ k own. subst (λ (s : ℕ). slot_net (both v other).numbers c s ≡ slot_net v.numbers c s) (omega arith) (ours k own))
    (λ k own. subst (λ (s : ℕ). slot_net (both v other).numbers c s ≡ slot_net other.numbers c s) (omega arith) (theirs k own))
  where
    theirs : (slot : ℕ) → Owns other slot → slot_net (both v other).numbers c slot ≡ slot_net other.numbers c slot
    theirs slot own =
        let in_board : slot < SLOTS = let within = set_within other.owned slot own in omega (arith, other_wide.slots) in
        let plus : plus_word slot c / SLOT_WORDS ≡ slot = omega arith in
        let minus : minus_word slot c / SLOT_WORDS ≡ slot = omega arith in
        rw (number_theirs v other (plus_word slot c) (omega arith) (rw plus own), number_theirs v other (minus_word slot c) (omega arith) (rw minus own)) refl

    ours : (slot : ℕ) → Owns v slot → slot_net (both v other).numbers c slot ≡ slot_net v.numbers c slot
    ours slot own =
        let in_board : slot < SLOTS = let within = set_within v.owned slot own in omega (arith, wide.slots) in
        let free = not_theirs v other slot (apart slot) own in
        let plus : plus_word slot c / SLOT_WORDS ≡ slot = omega arith in
        let minus : minus_word slot c / SLOT_WORDS ≡ slot = omega arith in
        rw (number_ours v other (plus_word slot c) (omega arith) (rw plus free), number_ours v other (minus_word slot c) (omega arith) (rw minus free)) refl

-- a desk, and the slot that it gave up
pub net_split : (v : View) (slot : ℕ) → IsWide v → Owns v slot → NetAdds v (alone v slot) (without v slot)
net_split v slot wide own c below =
    nets_add v.numbers v.numbers v.numbers c (alone v slot).owned (without v slot).owned v.owned 0 (length-set v.owned slot false ∙ (wide.slots ∙ sym wide_alone)) (wide.slots ∙ sym wide_alone)
    flags apart (λ k own. refl) (λ k own. refl)
  where
    wide_alone : length (alone v slot).owned ≡ SLOTS
    wide_alone = length-set (replicate SLOTS false) slot true ∙ length-replicate SLOTS false

    in_board : slot < SLOTS
    in_board = let within = set_within v.owned slot own in omega (arith, wide.slots)

    alone_here : owned_at (alone v slot) slot ≡ true
    alone_here = get_or-set_same (replicate SLOTS false) slot true false (rw (length-replicate SLOTS false) in_board)

    alone_else : (k : ℕ) → k ≢ slot → owned_at (alone v slot) k ≡ false
    alone_else k other = get_or-set_other (replicate SLOTS false) slot k true false other ∙ blank_at SLOTS k false

    flags : (k : ℕ) → k < length (alone v slot).owned → owned_at v k ≡ (owned_at (alone v slot) k || owned_at (without v slot) k)
    flags k within = elim (cases_eq k slot) [
      | inl same ↦ rw (same, alone_here) own
      | inr other ↦ rw (alone_else k other) (sym (get_or-set_other v.owned slot k false false other))
    ]

    apart : (k : ℕ) → Owns (alone v slot) k → Owns (without v slot) k → ⊥
    apart k mine theirs = elim (cases_eq k slot) [
      | inl same ↦ false≢true (sym (get_or-set_same v.owned slot false false (rw wide.slots in_board)) ∙ subst (Owns (without v slot)) same theirs)
      | inr other ↦ false≢true (sym (alone_else k other) ∙ mine)
    ]
