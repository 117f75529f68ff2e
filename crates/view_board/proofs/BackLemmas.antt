-- The words and the nets after a slot took back what it had published.
use Rattle.view_board.proofs.Common.{◌≡◌, ℕ, ◌/◌, ◌<◌, ◌==◌, max, List, length, get_or, true, refl, subst, ◌∙◌, arith, pos, ints, nat_tests, View, SLOTS, CELLS, SLOT_WORDS, WORDS, plus_word, minus_word, twin_of, leveled, slot_net, OwnsAlone, IsWide, taken_back, net_of}
use Rattle.view_board.proofs.LevelLemmas.{level_of, twin_of_plus, twin_of_minus}
use Rattle.view_board.proofs.ListLemmas.{each_word_at, length-each_word, set_within}
use Rattle.view_board.proofs.OwnLemmas.{net_alone}

pub length-leveled : (slot : ℕ) (words : List ℕ) → length (leveled slot words) ≡ WORDS
length-leveled slot words = length-each_word (level_of slot words)

-- a word of the slot is the greater of the two words of its cell
pub leveled_here : (slot : ℕ) (words : List ℕ) (w : ℕ) → slot < SLOTS → w / SLOT_WORDS ≡ slot → get_or (leveled slot words) w 0 ≡ max (get_or words w 0) (get_or words (twin_of w) 0)
leveled_here slot words w in_board own =
    let test : (w / SLOT_WORDS == slot) ≡ true = grind (arith, nat_tests) in
    each_word_at (level_of slot words) w (omega arith) ∙ rw test refl

-- the two words of a cell of the slot
pub leveled_plus : (slot : ℕ) (words : List ℕ) (c : ℕ) → slot < SLOTS → c < CELLS → get_or (leveled slot words) (plus_word slot c) 0 ≡ max (get_or words (plus_word slot c) 0) (get_or words (minus_word slot c) 0)
leveled_plus slot words c in_board in_slot = subst (λ (w : ℕ). get_or (leveled slot words) (plus_word slot c) 0 ≡ max (get_or words (plus_word slot c) 0) (get_or words w 0)) (twin_of_plus slot c in_slot) (leveled_here slot words (plus_word slot c) in_board (omega arith))

pub leveled_minus : (slot : ℕ) (words : List ℕ) (c : ℕ) → slot < SLOTS → c < CELLS → get_or (leveled slot words) (minus_word slot c) 0 ≡ max (get_or words (minus_word slot c) 0) (get_or words (plus_word slot c) 0)
leveled_minus slot words c in_board in_slot = subst (λ (w : ℕ). get_or (leveled slot words) (minus_word slot c) 0 ≡ max (get_or words (minus_word slot c) 0) (get_or words w 0)) (twin_of_minus slot c in_slot) (leveled_here slot words (minus_word slot c) in_board (omega arith))

-- the slot has no net
pub no_net : (slot : ℕ) (words : List ℕ) (c : ℕ) → slot < SLOTS → c < CELLS → slot_net (leveled slot words) c slot ≡ pos 0
no_net slot words c in_board in_slot =
    let plus = leveled_plus slot words c in_board in_slot in
    let minus = leveled_minus slot words c in_board in_slot in
    omega (arith, ints)

-- the desk is as wide as it was, and one with that slot alone has no net
pub wide_back : (v : View) (slot : ℕ) → IsWide v → IsWide (taken_back v slot)
wide_back v slot wide = record { slots = wide.slots; numbers = length-leveled slot v.numbers; seen = wide.seen }

pub none_back : (v : View) (slot c : ℕ) → IsWide v → OwnsAlone v slot → c < CELLS → net_of (taken_back v slot) c ≡ pos 0
none_back v slot c wide own in_slot =
    let below : slot < SLOTS = omega (arith, set_within v.owned slot own.0, wide.slots) in
    net_alone (taken_back v slot) c slot own ∙ no_net slot v.numbers c below in_slot
