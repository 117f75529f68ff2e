-- The net of a desk: after a word is raised, and of two desks as one.
use Rattle.view_board.proofs.Common.{◌≡◌, ◌≢◌, ℕ, zero, suc, ◌+◌, ◌/◌, ◌<◌, ◌≤◌, ◌==◌, if◌then◌else◌, List, [], ◌∷◌, length, get_or, set, drop, Bool, true, false, refl, subst, arith, ℤ, pos, negsuc, ◌+ℤ◌, unsigned_abs, ints, false≢true, nat_tests, at_drop_more, drop_all, get_or-set_same, get_or-set_other, by_test, View, SLOTS, CELLS, SLOT_WORDS, WORDS, plus_word, minus_word, word_of, slot_net, Owns, OwnsWord, IsWide, posted, NetMoves}
use Rattle.view_board.specs.Nets.{net_from}
use Rattle.view_board.proofs.ListLemmas.{set_within}

-- the word that an amount raises is one of the slot's
pub word_within : (slot cell : ℕ) (amount : ℤ) → slot < SLOTS → cell < CELLS → (word_of slot cell amount < WORDS) × (word_of slot cell amount / SLOT_WORDS ≡ slot)
word_within slot cell (pos n) in_board in_slot = (omega arith, omega arith)
word_within slot cell (negsuc n) in_board in_slot = (omega arith, omega arith)

-- a word of a desk's own is one of the board's
pub own_within : (v : View) → IsWide v → (w : ℕ) → OwnsWord v w → w < WORDS
own_within v wide w own = let slot = set_within v.owned (w / SLOT_WORDS) own in omega (arith, wide.slots)

-- the nets of the slots from one on are that one's and those behind it
pub net_from-next : (flags : List Bool) (from start : ℕ) (words : List ℕ) (cell : ℕ) → from < length flags
    → net_from (drop from flags) start words cell ≡ (if get_or flags from false then slot_net words cell start else pos 0) +ℤ net_from (drop (from + 1) flags) (start + 1) words cell
unfolding net_from
net_from-next flags from start words cell below = at_drop_more (λ flags. net_from flags start words cell) flags from false below

-- behind the last slot there is nothing
pub net_from-end : (flags : List Bool) (from start : ℕ) (words : List ℕ) (cell : ℕ) → length flags ≤ from → net_from (drop from flags) start words cell ≡ pos 0
unfolding net_from
net_from-end flags from start words cell past = rw (drop_all from flags past) refl

module _ (words after : List ℕ) (cell : ℕ) where
  -- the nets of slots of which none moved
  pub net_from-same : (flags : List Bool) (start : ℕ) → ((slot : ℕ) → start ≤ slot → slot_net after cell slot ≡ slot_net words cell slot) → net_from flags start after cell ≡ net_from flags start words cell
  unfolding net_from
  net_from-same [] start same = refl
  net_from-same (flag ∷ flags) start same = rw (same start (omega arith), net_from-same flags (start + 1) (λ slot from. same slot (omega arith))) refl

  -- the nets of slots of which one moved
  pub net_from-moved : (flags : List Bool) (start at : ℕ) (amount : ℤ) → get_or flags at false ≡ true → slot_net after cell (start + at) ≡ slot_net words cell (start + at) +ℤ amount
      → ((slot : ℕ) → slot ≢ start + at → slot_net after cell slot ≡ slot_net words cell slot) → net_from flags start after cell ≡ net_from flags start words cell +ℤ amount
  unfolding net_from
  net_from-moved [] start at amount own moved same = absurd (false≢true own)
  net_from-moved (true ∷ flags) start zero amount own moved same =
      let here : slot_net after cell start ≡ slot_net words cell start +ℤ amount = subst (λ (k : ℕ). slot_net after cell k ≡ slot_net words cell k +ℤ amount) (omega arith) moved in
      let rest = net_from-same flags (start + 1) (λ slot from. same slot (λ e. absurd (omega arith))) in
      omega (arith, ints, here, rest)
  net_from-moved (false ∷ flags) start zero amount own moved same = absurd (false≢true own)
  net_from-moved (flag ∷ flags) start (suc at) amount own moved same =
      let next : start + suc at ≡ start + 1 + at = omega arith in
      let here : slot_net after cell start ≡ slot_net words cell start = same start (λ e. absurd (omega arith)) in
      let rest = net_from-moved flags (start + 1) at amount own (subst (λ (k : ℕ). slot_net after cell k ≡ slot_net words cell k +ℤ amount) next moved) (λ slot other. same slot (λ e. other (omega arith))) in
      rw (here, rest) (omega (arith, ints))

-- a slot's net after an amount is posted: in its cell, in another cell, in another slot
pub slot_net-here : (words : List ℕ) (slot cell : ℕ) (amount : ℤ) → length words ≡ WORDS → slot < SLOTS → cell < CELLS
    → slot_net (set words (word_of slot cell amount) (get_or words (word_of slot cell amount) 0 + unsigned_abs amount)) cell slot ≡ slot_net words cell slot +ℤ amount
slot_net-here words slot cell (pos n) wide in_board in_slot =
    rw (get_or-set_same words (plus_word slot cell) (get_or words (plus_word slot cell) 0 + n) 0 (omega arith), get_or-set_other words (plus_word slot cell) (minus_word slot cell) (get_or words (plus_word slot cell) 0 + n) 0 (λ e. absurd (omega arith))) (omega (arith, ints))
slot_net-here words slot cell (negsuc n) wide in_board in_slot =
    rw (get_or-set_same words (minus_word slot cell) (get_or words (minus_word slot cell) 0 + suc n) 0 (omega arith), get_or-set_other words (minus_word slot cell) (plus_word slot cell) (get_or words (minus_word slot cell) 0 + suc n) 0 (λ e. absurd (omega arith))) (omega (arith, ints))

slot_net-else : (words : List ℕ) (slot cell w k : ℕ) → plus_word slot cell ≢ w → minus_word slot cell ≢ w → slot_net (set words w k) cell slot ≡ slot_net words cell slot
slot_net-else words slot cell w k plus minus = rw (get_or-set_other words w (plus_word slot cell) k 0 plus, get_or-set_other words w (minus_word slot cell) k 0 minus) refl

pub slot_net-other_cell : (words : List ℕ) (slot cell c k : ℕ) (amount : ℤ) → cell < CELLS → c < CELLS → c ≢ cell → slot_net (set words (word_of slot cell amount) k) c slot ≡ slot_net words c slot
slot_net-other_cell words slot cell c k (pos n) in_slot below other = slot_net-else words slot c (plus_word slot cell) k (λ e. other (omega arith)) (λ e. absurd (omega arith))
slot_net-other_cell words slot cell c k (negsuc n) in_slot below other = slot_net-else words slot c (minus_word slot cell) k (λ e. absurd (omega arith)) (λ e. other (omega arith))

pub slot_net-other_slot : (words : List ℕ) (slot cell s c k : ℕ) (amount : ℤ) → cell < CELLS → c < CELLS → s ≢ slot → slot_net (set words (word_of slot cell amount) k) c s ≡ slot_net words c s
slot_net-other_slot words slot cell s c k (pos n) in_slot below other = slot_net-else words s c (plus_word slot cell) k (λ e. other (omega arith)) (λ e. other (omega arith))
slot_net-other_slot words slot cell s c k (negsuc n) in_slot below other = slot_net-else words s c (minus_word slot cell) k (λ e. other (omega arith)) (λ e. other (omega arith))

-- posting an amount in an own slot moves the net of its cell by that, and no other
pub net_moves : (v : View) (slot cell : ℕ) (amount : ℤ) → IsWide v → Owns v slot → slot < SLOTS → cell < CELLS → NetMoves v (posted v slot cell amount) cell amount
net_moves v slot cell amount wide own in_board in_slot c below =
    let w : ℕ = word_of slot cell amount in
    let k : ℕ = get_or v.numbers w 0 + unsigned_abs amount in
    let after : List ℕ = set v.numbers w k in
    let start : 0 + slot ≡ slot = omega arith in
    let others : (s : ℕ) → s ≢ 0 + slot → slot_net after c s ≡ slot_net v.numbers c s = λ s other. slot_net-other_slot v.numbers slot cell s c k amount in_slot below (λ e. other (omega arith)) in
    by_test (c == cell)
    (λ same.
    let here : c ≡ cell = grind (arith, nat_tests) in
    let moved : slot_net after c (0 + slot) ≡ slot_net v.numbers c (0 + slot) +ℤ amount = rw (start, here) (slot_net-here v.numbers slot cell amount wide.numbers in_board in_slot) in
    rw same (net_from-moved v.numbers after c v.owned 0 slot amount own moved others))
    (λ differs.
    let other : c ≢ cell = grind (arith, nat_tests) in
    let stays : slot_net after c (0 + slot) ≡ slot_net v.numbers c (0 + slot) +ℤ pos 0 = rw (start, slot_net-other_cell v.numbers slot cell c k amount in_slot below other) (omega (arith, ints)) in
    rw differs (net_from-moved v.numbers after c v.owned 0 slot (pos 0) own stays others))
