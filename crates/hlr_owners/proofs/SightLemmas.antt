-- Slots that no part has: where there are fewer parts than slots there is one, and the least is the spare desk's least;
-- and what the spare desk sees is a right sight of the store.
use Rattle.hlr_owners.proofs.Common.{◌≡◌, ◌∙◌, refl, sym, ap, ℕ, zero, suc, ◌+◌, ◌/◌, ◌<◌, ◌≤◌, ◌==◌, arith, List, [], ◌∷◌, get_or, map, true, false, inl, inr, sum_by, AllByRecursion, list_any, range_with_len, cases_eq, nat_tests, sum_by-cons, any-filter_same, TableId, by_test, DeskState, with_view, owned_at, Owns, IsRightSight, looked, each_word, SLOTS, SLOT_WORDS, WORDS, owns_one, own_number, words_of, slots_in, AreDesks, all_pieces, length, Bool, not, ◌-◌, least_here, least_more, least_passes, least, IsLeastSlot, HasOneSlot, free_slot}
use Rattle.hlr_owners.specs.Words.{all_slots}
use Rattle.hlr_owners.proofs.DeskLemmas.{none_owns, words_at}

-- a slot is one of all slots
in_range : (a n slot : ℕ) → a ≤ slot → slot < a + n → list_any (λ own. own == slot) (range_with_len a n) ≡ true
in_range a zero slot from to = absurd (omega arith)
in_range a (suc n) slot from to = elim (cases_eq a slot) [
  | inl same ↦ let here : (a == slot) ≡ true = grind (arith, nat_tests, same) in rw here refl
  | inr other ↦ let here : (a == slot) ≡ false = grind (arith, nat_tests, other) in rw here (in_range (a + 1) n slot (omega arith) (omega arith))
]

-- a slot is among those of a desk where it is the desk's
pub is_listed : (desk : DeskState) (slot : ℕ) → slot < SLOTS → list_any (λ own. own == slot) (slots_in desk) ≡ owned_at desk.view slot
unfolding all_slots
is_listed desk slot below =
    let kept = any-filter_same (λ own. own == slot) (owned_at desk.view) (owned_at desk.view slot) (λ k is. let same : k ≡ slot = grind (arith, nat_tests, is) in ap (owned_at desk.view) same) all_slots in
    let some = in_range 0 SLOTS slot (omega arith) (omega arith) in
    kept ∙ rw some (by_test (owned_at desk.view slot) (λ e. rw e refl) (λ e. rw e refl))

-- the slots of desks that have one each, counted from 1
abbrev numbers_of : (desks : List DeskState) → AllByRecursion HasOneSlot desks → List ℕ
numbers_of [] each = []
numbers_of (desk ∷ desks) each = (each.0.0 + 1) ∷ numbers_of desks each.1

numbers_long : (desks : List DeskState) (each : AllByRecursion HasOneSlot desks) → length (numbers_of desks each) ≡ length desks
numbers_long [] each = refl
numbers_long (desk ∷ desks) each = ap suc (numbers_long desks each.1)

-- a slot of theirs is among them
numbers_have : (n slot : ℕ) (desks : List DeskState) (each : AllByRecursion HasOneSlot desks) → n ≡ slot + 1 → 1 ≤ sum_by (owns_one slot) desks → list_any (λ m. m == n) (numbers_of desks each) ≡ true
numbers_have n slot [] each next some = absurd (omega arith)
numbers_have n slot (desk ∷ desks) each next some =
    let sum = sum_by-cons (owns_one slot) desk desks in
    by_test (owned_at desk.view slot)
    (λ e. let same : slot ≡ each.0.0 = each.0.1.1 slot e in let here : (each.0.0 + 1 == n) ≡ true = grind (arith, nat_tests, same, next) in rw here refl)
    (λ e. let none : owns_one slot desk ≡ 0 = rw e refl in
    let rest = numbers_have n slot desks each.1 next (omega arith) in
    by_test (each.0.0 + 1 == n) (λ f. rw f refl) (λ f. rw f rest))

-- so a desk beside fewer desks than slots has one
pub has_slot : (spare : DeskState) (desks : List DeskState) → ((slot : ℕ) → slot < SLOTS → sum_by (owns_one slot) (spare ∷ desks) ≡ 1) → AllByRecursion HasOneSlot desks → length desks < SLOTS
    → (slot : ℕ) × Owns spare.view slot
has_slot spare desks once alone few = elim (least_passes (owned_at spare.view) 0 SLOTS) [
  | inl found ↦ (least (owned_at spare.view) 0 SLOTS, found.0)
  | inr none ↦ absurd (
      let many = all_pieces (numbers_of desks alone) (λ n from to. numbers_have n (n - 1) desks alone (omega arith) (theirs (n - 1) (none (n - 1) (omega arith) (omega arith)) (once (n - 1) (omega arith)))) in
      let long = numbers_long desks alone in
      omega arith)
]
  where
    theirs : (slot : ℕ) → owned_at spare.view slot ≡ false → sum_by (owns_one slot) (spare ∷ desks) ≡ 1 → 1 ≤ sum_by (owns_one slot) desks
    theirs slot free once =
        let none : owns_one slot spare ≡ 0 = rw free refl in
        omega (arith, sum_by-cons (owns_one slot) spare desks)

-- the least of some numbers that passes a test
least_is : (test : ℕ → Bool) (from more k : ℕ) → from ≤ k → k < from + more → test k ≡ true → ((j : ℕ) → from ≤ j → j < k → test j ≡ false) → least test from more ≡ k
least_is test from zero k low high is none = absurd (omega arith)
least_is test from (suc more) k low high is none = elim (cases_eq from k) [
  | inl same ↦ least_here test from (suc more) (omega arith) (rw same is) ∙ same
  | inr other ↦ least_more test from (suc more) more (omega arith) (none from (omega arith) (omega arith)) ∙ least_is test (from + 1) more k (omega arith) (omega arith) is (λ j above under. none j (omega arith) under)
]

-- a slot is among those of some part where it counts in a part's desk
any_listed : (slot : ℕ) → slot < SLOTS → (desks : List DeskState) → list_any (λ own. list_any (λ s. s == slot) own) (map slots_in desks) ≡ not (sum_by (owns_one slot) desks == 0)
any_listed slot below [] = refl
any_listed slot below (desk ∷ desks) =
    rw (is_listed desk slot below, any_listed slot below desks, sum_by-cons (owns_one slot) desk desks) (by_test (owned_at desk.view slot)
    (λ e. let some : (1 + sum_by (owns_one slot) desks == 0) ≡ false = grind (arith, nat_tests) in rw e (ap not (sym some)))
    (λ e. let same : sum_by (owns_one slot) desks ≡ 0 + sum_by (owns_one slot) desks = omega arith in rw e (ap (λ n. not (n == 0)) same)))

module _ (spare : DeskState) (desks : List DeskState) (once : (slot : ℕ) → slot < SLOTS → sum_by (owns_one slot) (spare ∷ desks) ≡ 1) where
  -- no part has it where it is the spare desk's
  spare_or_part : (slot : ℕ) → slot < SLOTS → not (list_any (λ own. list_any (λ s. s == slot) own) (map slots_in desks)) ≡ owned_at spare.view slot
  spare_or_part slot below =
      let all = rw (sum_by-cons (owns_one slot) spare desks) at (once slot below) in
      by_test (owned_at spare.view slot)
      (λ e. let none : sum_by (owns_one slot) desks ≡ 0 = (let now = rw e at all in omega arith) in rw (any_listed slot below desks, e, none) refl)
      (λ e. let one : sum_by (owns_one slot) desks ≡ 1 = (let now = rw e at all in omega arith) in rw (any_listed slot below desks, e, one) refl)

  -- so the least free slot is the spare desk's least
  pub free_is : (slot : ℕ) → slot < SLOTS → IsLeastSlot spare.view slot → slot ≡ free_slot (map slots_in desks)
  free_is slot in_board least =
      sym (least_is (λ k. not (list_any (λ own. list_any (λ s. s == k) own) (map slots_in desks))) 0 SLOTS slot (omega arith) (omega arith) (spare_or_part slot in_board ∙ least.0)
      (λ j above under. spare_or_part j (omega arith) ∙ by_test (owned_at spare.view j) (λ e. absurd (least.1 j under e)) (λ e. e)))

-- where none of some passes a test, the test of any fails
none_passes : {X : Type 0} (test : X → Bool) (xs : List X) → AllByRecursion (λ x. test x ≡ false) xs → list_any test xs ≡ false
none_passes test [] each = refl
none_passes test (x ∷ xs) each = rw (each.0, none_passes test xs each.1) refl

module _ (board : TableId) (spare : DeskState) (desks : List DeskState) (are : AreDesks board spare desks) where
  -- the word of a slot that no part has is the spare desk's number
  pub spare_word : (words : List ℕ) (w : ℕ) → IsRightSight spare.view words → w < WORDS → AllByRecursion (λ slots. list_any (λ own. own == w / SLOT_WORDS) slots ≡ false) (map slots_in desks)
      → get_or words w 0 ≡ get_or (words_of (spare ∷ desks)) w 0
  spare_word words w right below none =
      let in_board : w / SLOT_WORDS < SLOTS = omega arith in
      let own : Owns spare.view (w / SLOT_WORDS) = sym (spare_or_part spare desks are.shares.once (w / SLOT_WORDS) in_board)
      ∙ ap not (none_passes (λ slots. list_any (λ own. own == w / SLOT_WORDS) slots) (map slots_in desks) none) in
      let mine : own_number w spare ≡ get_or spare.view.numbers w 0 = rw own refl in
      let once = rw (sum_by-cons (owns_one (w / SLOT_WORDS)) spare desks, own) at (are.shares.once (w / SLOT_WORDS) in_board) in
      right.own w own ∙ sym (words_at (spare ∷ desks) w below ∙ sum_by-cons (own_number w) spare desks ∙ rw (mine, none_owns desks (w / SLOT_WORDS) w refl (omega arith)) (omega arith))

  -- the rules of all desks after a look, which changes no word
  pub desks_looked : (words : List ℕ) → IsRightSight spare.view words → AreDesks board (with_view spare (looked spare.view words)) desks
  desks_looked words right = record {
    of_board = (record { same = are.of_board.0.same; wide = record { slots = are.of_board.0.wide.slots; numbers = are.of_board.0.wide.numbers; seen = right.wide } }, are.of_board.1);
    shares = record {
      once = λ slot below. sum_by-cons (owns_one slot) (with_view spare (looked spare.view words)) desks ∙ sym (sum_by-cons (owns_one slot) spare desks) ∙ are.shares.once slot below;
      alone = are.shares.alone;
      idle = are.shares.idle;
    };
  }

-- the words stay
pub words_looked : (spare : DeskState) (desks : List DeskState) (words : List ℕ) → words_of (with_view spare (looked spare.view words) ∷ desks) ≡ words_of (spare ∷ desks)
words_looked spare desks words = λ k. each_word (λ w. (sum_by-cons (own_number w) (with_view spare (looked spare.view words)) desks ∙ sym (sum_by-cons (own_number w) spare desks)) k)
