-- The words of the board as all desks have them: their nets, and after one desk has raised a word.
use Rattle.hlr_owners.proofs.Common.{◌≡◌, ◌∙◌, refl, sym, ap, ℕ, zero, suc, ◌+◌, ◌/◌, ◌<◌, ◌≤◌, arith, List, [], ◌∷◌, length, get_or, set, drop, true, false, Bool, inl, inr, ℤ, pos, ◌-ℤ◌, sum_by, unsigned_abs, AllByRecursion, filter, range_with_len, cases_eq, ints, length-set, get_or-set_same, get_or-set_other, ext_get_or, sum_by-cons, sum_by-set, get_or-le-sum_by, by_test, CELLS, DeskState, with_view, net_of, owned_at, Owns, IsWide, posted, plus_word, minus_word, word_of, raised_by, slot_net, View, SLOTS, SLOT_WORDS, WORDS, each_word_at, length-each_word, net_from-next, net_from-end, word_within, own_number, owns_one, words_of, slots_in, HasOneSlot, least_slot, net, OwnsAlone, ◌≢◌, if◌then◌else◌, net_from}
use Rattle.hlr_owners.specs.Words.{all_slots}
use Rattle.hlr_owners.proofs.ListLemmas.{sum_ints, sums_added, sums_none}

-- a desk with the flags of one that has one slot
pub same_one : (before after : DeskState) → after.view.owned ≡ before.view.owned → HasOneSlot before → HasOneSlot after
same_one before after owned one = rw owned one

-- a word, read
pub words_at : (desks : List DeskState) (w : ℕ) → w < WORDS → get_or (words_of desks) w 0 ≡ sum_by (own_number w) desks
words_at desks w below = each_word_at (λ k. sum_by (own_number k) desks) w below

-- what a desk has published of a slot and cell, if the slot is its own
abbrev own_net : ℕ → ℕ → DeskState → ℤ
own_net slot c desk = if owned_at desk.view slot then slot_net desk.view.numbers c slot else pos 0

-- the difference of two sums is the sum of differences
differences : (f g : DeskState → ℕ) (h : DeskState → ℤ) → ((d : DeskState) → h d ≡ pos (f d) -ℤ pos (g d)) → (desks : List DeskState) → pos (sum_by f desks) -ℤ pos (sum_by g desks) ≡ sum_ints h desks
differences f g h is [] = omega (arith, ints)
differences f g h is (d ∷ desks) = rw (sum_by-cons f d desks, sum_by-cons g d desks) (omega (arith, ints, differences f g h is desks, is d))

-- the net of a slot is what its desk has published
net_at : (desks : List DeskState) (slot c : ℕ) → slot < SLOTS → c < CELLS → slot_net (words_of desks) c slot ≡ sum_ints (own_net slot c) desks
net_at desks slot c in_board in_slot =
    let plus : plus_word slot c / SLOT_WORDS ≡ slot = omega arith in
    let minus : minus_word slot c / SLOT_WORDS ≡ slot = omega arith in
    rw (words_at desks (plus_word slot c) (omega arith), words_at desks (minus_word slot c) (omega arith))
    (differences (own_number (plus_word slot c)) (own_number (minus_word slot c)) (own_net slot c) (λ d. one d plus minus) desks)
  where
    one : (d : DeskState) → plus_word slot c / SLOT_WORDS ≡ slot → minus_word slot c / SLOT_WORDS ≡ slot → own_net slot c d ≡ pos (own_number (plus_word slot c) d) -ℤ pos (own_number (minus_word slot c) d)
    one d plus minus = by_test (owned_at d.view slot) (λ e. rw (plus, minus, e) refl) (λ e. rw (plus, minus, e) (omega (arith, ints)))

-- the nets of all slots from one on are those of all desks in their slots from there on
nets_from : (desks : List DeskState) (a n c : ℕ) → a + n ≡ SLOTS → c < CELLS → AllByRecursion (λ (d : DeskState). IsWide d.view) desks
    → net (words_of desks) (range_with_len a n) c ≡ sum_ints (λ (d : DeskState). net_from (drop a d.view.owned) a d.view.numbers c) desks
nets_from desks a zero c all below wide =
    sym (sums_none (λ (d : DeskState). net_from (drop a d.view.owned) a d.view.numbers c) (λ (d : DeskState). IsWide d.view)
    (λ d is. net_from-end d.view.owned a a d.view.numbers c (let long = is.slots in omega arith)) desks wide)
nets_from desks a (suc n) c all below wide =
    let rest = nets_from desks (a + 1) n c (omega arith) below wide in
    let here = net_at desks a c (omega arith) below in
    rw (here, rest) (sym (sums_added (own_net a c) (λ (d : DeskState). net_from (drop (a + 1) d.view.owned) (a + 1) d.view.numbers c) (λ (d : DeskState). net_from (drop a d.view.owned) a d.view.numbers c)
    (λ (d : DeskState). IsWide d.view) (λ d is. net_from-next d.view.owned a a d.view.numbers c (let long = is.slots in omega arith)) desks wide))

-- so all slots have published what all desks have
pub nets_of_desks : (desks : List DeskState) (c : ℕ) → c < CELLS → AllByRecursion (λ (d : DeskState). IsWide d.view) desks
    → net (words_of desks) all_slots c ≡ sum_ints (λ (d : DeskState). net_of d.view c) desks
unfolding all_slots
nets_of_desks desks c below wide = nets_from desks 0 SLOTS c refl below wide

-- where no desk has a slot, none has a number at its words
pub none_owns : (desks : List DeskState) (slot w : ℕ) → w / SLOT_WORDS ≡ slot → sum_by (owns_one slot) desks ≡ 0 → sum_by (own_number w) desks ≡ 0
none_owns [] slot w of_slot none = refl
none_owns (d ∷ desks) slot w of_slot none =
    let sum = rw (sum_by-cons (owns_one slot) d desks) at none in
    by_test (owned_at d.view slot)
    (λ e. let clash = rw e at sum in absurd (omega arith))
    (λ e. let less = rw e at sum in let rest = none_owns desks slot w of_slot (omega arith) in let here : own_number w d ≡ 0 = rw (of_slot, e) refl in let all = sum_by-cons (own_number w) d desks in omega arith)

-- one that has a slot counts
pub one_owns : (desks : List DeskState) (p slot : ℕ) (desk : DeskState) → p < length desks → desk ≡ get_or desks p desk → Owns desk.view slot → 1 ≤ sum_by (owns_one slot) desks
one_owns desks p slot desk within is own =
    let one : owns_one slot (get_or desks p desk) ≡ 1 = rw (← is, own) refl in
    omega (arith, get_or-le-sum_by (owns_one slot) desks p desk within)

-- a word of a slot that one desk alone has is that desk's number
pub sole_number : (desks : List DeskState) (p slot w : ℕ) (desk : DeskState) → p < length desks → desk ≡ get_or desks p desk → Owns desk.view slot → sum_by (owns_one slot) desks ≡ 1 → w / SLOT_WORDS ≡ slot
    → sum_by (own_number w) desks ≡ get_or desk.view.numbers w 0
sole_number [] p slot w desk within is own once of_slot = absurd (omega arith)
sole_number (d ∷ desks) zero slot w desk within is own once of_slot =
    let sum = rw (sum_by-cons (owns_one slot) d desks, ← is, own) at once in
    let here : own_number w d ≡ get_or desk.view.numbers w 0 = rw (← is, of_slot, own) refl in
    omega (arith, none_owns desks slot w of_slot (omega arith), sum_by-cons (own_number w) d desks)
sole_number (d ∷ desks) (suc p) slot w desk within is own once of_slot =
    let sum = rw (sum_by-cons (owns_one slot) d desks) at once in
    let later = one_owns desks p slot desk (omega arith) is own in
    by_test (owned_at d.view slot)
    (λ e. let clash = rw e at sum in absurd (omega arith))
    (λ e. let less = rw e at sum in let rest = sole_number desks p slot w desk (omega arith) is own (omega arith) of_slot in let here : own_number w d ≡ 0 = rw (of_slot, e) refl in let all = sum_by-cons (own_number w) d desks in omega arith)

-- the net of slots of which each has a net in some words is theirs in others
nets_same : (desk : DeskState) (words : List ℕ) (a n c : ℕ) → a + n ≡ SLOTS → IsWide desk.view → ((slot : ℕ) → slot < SLOTS → Owns desk.view slot → slot_net words c slot ≡ slot_net desk.view.numbers c slot)
    → net words (filter (owned_at desk.view) (range_with_len a n)) c ≡ net_from (drop a desk.view.owned) a desk.view.numbers c
nets_same desk words a zero c all wide same = sym (net_from-end desk.view.owned a a desk.view.numbers c (let long = wide.slots in omega arith))
nets_same desk words a (suc n) c all wide same =
    let rest = nets_same desk words (a + 1) n c (omega arith) wide same in
    let next = net_from-next desk.view.owned a a desk.view.numbers c (let long = wide.slots in omega arith) in
    by_test (owned_at desk.view a)
    (λ e. let here = same a (omega arith) e in let next' = rw e at next in rw e (omega (arith, ints)))
    (λ e. let next' = rw e at next in rw e (omega (arith, ints)))

-- the slots from one on of which one passes a test
only_from : (test : ℕ → Bool) (a n slot : ℕ) → a ≤ slot → slot < a + n → test slot ≡ true → ((other : ℕ) → other ≢ slot → test other ≡ false) → filter test (range_with_len a n) ≡ slot ∷ []
only_from test a zero slot from to is others = absurd (omega arith)
only_from test a (suc n) slot from to is others = elim (cases_eq a slot) [
  | inl same ↦ rw (same, is) (ap (λ slots. slot ∷ slots) (none_from (slot + 1) n (omega arith)))
  | inr other ↦ rw (others a other) (only_from test (a + 1) n slot (omega arith) (omega arith) is others)
]
  where
    none_from : (b m : ℕ) → slot < b → filter test (range_with_len b m) ≡ []
    none_from b zero behind = refl
    none_from b (suc m) behind = rw (others b (omega arith)) (none_from (b + 1) m (omega arith))

-- a desk that has one slot lists that one, which is the least then
pub only_listed : (desk : DeskState) (slot : ℕ) → slot < SLOTS → OwnsAlone desk.view slot → slots_in desk ≡ slot ∷ []
unfolding all_slots
only_listed desk slot below own =
    only_from (owned_at desk.view) 0 SLOTS slot (omega arith) below own.0 (λ other differ. by_test (owned_at desk.view other) (λ e. absurd (differ (own.1 other e))) (λ e. e))

pub least_of_slots : (desk : DeskState) (slot : ℕ) → slot < SLOTS → OwnsAlone desk.view slot → least_slot (slots_in desk) ≡ slot
least_of_slots desk slot in_board own = rw (only_listed desk slot in_board own) (omega arith)

-- a desk in the place of one that differs in its numbers alone
module _ (desks : List DeskState) (p : ℕ) (desk : DeskState) (within : p < length desks) (is : desk ≡ get_or desks p desk) where
  abbrev pub words_with : View → List ℕ
  words_with view = words_of (set desks p (with_view desk view))

  -- a word, with that of the desk as it was
  word_with : (view : View) (w : ℕ) → w < WORDS → get_or (words_with view) w 0 + own_number w desk ≡ get_or (words_of desks) w 0 + own_number w (with_view desk view)
  word_with view w below =
      let sum = rw (← is) at (sum_by-set (own_number w) desks p (with_view desk view) desk within) in
      rw (words_at (set desks p (with_view desk view)) w below, words_at desks w below) sum

  module _ (slot : ℕ) (own : Owns desk.view slot) (in_board : slot < SLOTS) where
    -- an amount that the desk posts raises the word
    pub words_posted : (view : View) (c : ℕ) (amount : ℤ) → view.owned ≡ desk.view.owned → IsWide view → c < CELLS → words_with (posted view slot c amount) ≡ raised_by (words_with view) slot c amount
    words_posted view c amount same wide below =
        ext_get_or 0 (words_with (posted view slot c amount)) (raised_by (words_with view) slot c amount)
        (length-each_word (λ k. sum_by (own_number k) (set desks p (with_view desk (posted view slot c amount))))
        ∙ sym (length-set (words_with view) at (get_or (words_with view) at 0 + unsigned_abs amount) ∙ length-each_word (λ k. sum_by (own_number k) (set desks p (with_view desk view)))))
        (λ w low. let small : w < WORDS = rw (length-each_word (λ k. sum_by (own_number k) (set desks p (with_view desk (posted view slot c amount))))) at low in each w small)
      where
        at : ℕ
        at = word_of slot c amount

        there : (at < WORDS) × (at / SLOT_WORDS ≡ slot)
        there = word_within slot c amount in_board below

        owns : owned_at view slot ≡ true
        owns = rw same own

        each : (w : ℕ) → w < WORDS → get_or (words_with (posted view slot c amount)) w 0 ≡ get_or (raised_by (words_with view) slot c amount) w 0
        each w low = elim (cases_eq w at) [
          | inl here ↦ (
              let number = get_or-set_same view.numbers at (get_or view.numbers at 0 + unsigned_abs amount) 0 (omega (arith, there.0, wide.numbers)) in
              let long = length-each_word (λ k. sum_by (own_number k) (set desks p (with_view desk view))) in
              let more = get_or-set_same (words_with view) at (get_or (words_with view) at 0 + unsigned_abs amount) 0 (omega (arith, there.0, long)) in
              rw (here, more) (omega (arith, rw (here, there.1, owns) at (word_with view w low), rw (here, there.1, owns, number) at (word_with (posted view slot c amount) w low)))
              )
          | inr other ↦ (
              let before = word_with view w low in
              let after = word_with (posted view slot c amount) w low in
              let number : own_number w (with_view desk (posted view slot c amount)) ≡ own_number w (with_view desk view) =
              ap (λ (n : ℕ). if owned_at view (w / SLOT_WORDS) then n else 0) (get_or-set_other view.numbers at w (get_or view.numbers at 0 + unsigned_abs amount) 0 other) in
              let stays = get_or-set_other (words_with view) at w (get_or (words_with view) at 0 + unsigned_abs amount) 0 other in
              rw stays (omega arith)
              )
        ]

    -- a word of the slot is the desk's number
    pub word_here : (view : View) (c : ℕ) (amount : ℤ) → sum_by (owns_one slot) desks ≡ 1 → view.owned ≡ desk.view.owned → c < CELLS → get_or (words_with view) (word_of slot c amount) 0 ≡ get_or view.numbers (word_of slot c amount) 0
    word_here view c amount once same below =
        let there = word_within slot c amount in_board below in
        let old = words_at desks (word_of slot c amount) there.0 ∙ sole_number desks p slot (word_of slot c amount) desk within is own once there.1 in
        let mine : own_number (word_of slot c amount) desk ≡ get_or desk.view.numbers (word_of slot c amount) 0 = rw (there.1, own) refl in
        let new : own_number (word_of slot c amount) (with_view desk view) ≡ get_or view.numbers (word_of slot c amount) 0 = rw (there.1, same, own) refl in
        omega (arith, word_with view (word_of slot c amount) there.0)

-- the slots of a desk: the nets of the words in them are the desk's, and the least of them
module _ (desks : List DeskState) (p : ℕ) (desk : DeskState) (within : p < length desks) (is : desk ≡ get_or desks p desk) (once : (slot : ℕ) → slot < SLOTS → sum_by (owns_one slot) desks ≡ 1) (wide : IsWide desk.view) where
  own_slot_net : (slot c : ℕ) → slot < SLOTS → c < CELLS → Owns desk.view slot → slot_net (words_of desks) c slot ≡ slot_net desk.view.numbers c slot
  own_slot_net slot c in_board below own =
      let plus : plus_word slot c / SLOT_WORDS ≡ slot = omega arith in
      let minus : minus_word slot c / SLOT_WORDS ≡ slot = omega arith in
      rw (
        words_at desks (plus_word slot c) (omega arith),
        words_at desks (minus_word slot c) (omega arith),
        sole_number desks p slot (plus_word slot c) desk within is own (once slot in_board) plus,
        sole_number desks p slot (minus_word slot c) desk within is own (once slot in_board) minus,
      ) refl

  pub net_of_slots : (c : ℕ) → c < CELLS → net (words_of desks) (slots_in desk) c ≡ net_of desk.view c
  unfolding all_slots
  net_of_slots c below = nets_same desk (words_of desks) 0 SLOTS c refl wide (λ slot in_board own. own_slot_net slot c in_board below own)
