-- The local law, from the opening of a holding through its actions and postings.
use Rattle.holding.proofs.Common.{◌≡◌, ℕ, ◌+◌, ◌-◌, ◌^◌, ◌<◌, ◌≤◌, ◌==◌, refl, arith, List, length, set, get_or, subst, ◌∙◌, inl, inr, nat_lt, true, false, ℤ, pos, neg_ℤ, ◌-ℤ◌, ◌≤ℤ◌, cases_lt, nat_tests, ints, get_or-set_same, get_or-set_other, get_or_past, length-set, by_test, empty_book, IsChange, cell, PartState, IsPart, few_cells, CELLS, FIRST_AREA, FIRST_ZONE, DeskState, net_of, NetMoves, IsLeastSlot, IsWide, OwnsAlone, posted, slot_net, word_of, net_alone, View, delta_at, NotesFit, HoldingState, IsHolding, HasSmallNets, count_of}
use Rattle.tatp_actions.specs.Cell.{active_forwardings, in_area, in_zone}

-- an empty book has no count
empty_active : (hour : ℕ) → active_forwardings hour empty_book ≡ 0
unfolding active_forwardings
empty_active hour = refl

empty_area : (a : ℕ) → in_area a empty_book ≡ 0
unfolding in_area
empty_area a = refl

empty_zone : (width z : ℕ) → in_zone width z empty_book ≡ 0
unfolding in_zone
empty_zone width z = refl

pub empty_cell : (width c : ℕ) → cell width c empty_book ≡ 0
empty_cell width c =
    by_test (nat_lt c FIRST_AREA) (λ e. rw e (empty_active c))
    (λ e. by_test (nat_lt c FIRST_ZONE) (λ f. rw (e, f) (empty_area (c - FIRST_AREA))) (λ f. rw (e, f) (empty_zone width (c - FIRST_ZONE))))

-- a part counts few rows
pub few : (part : PartState) → IsPart part → (c : ℕ) → count_of part c ≤ 2 ^ 40
few part rules c = few_cells part.lo part.hi part.width c part.book rules.rows rules.range.2

-- a holding opens: what its desk has not published of its counts is pending
pub opened : (part : PartState) (counts : List ℕ) (deltas pending : List ℤ) (desk : DeskState) (slot : ℕ) → IsPart part → IsLeastSlot desk.view slot → HasSmallNets desk.view → IsWide desk.view
    → ((c : ℕ) → c < CELLS → get_or counts c 0 ≡ count_of part c) → ((c : ℕ) → c < CELLS → delta_at deltas c ≡ pos (get_or counts c 0) -ℤ net_of desk.view c) → pending ≡ deltas
    → IsHolding (record { part = part; pending = pending; desk = desk; slot = slot })
opened part counts deltas pending desk slot rules least small wide are told is = record {
  rules = rules;
  slot = least;
  law = λ c below. (let count = are c below in let delta = told c below in rw is (omega (arith, ints)));
  small = small;
  wide = wide;
}

-- what is pending of a holding is small
pub pending_small : (holding : HoldingState) → IsHolding holding → (c : ℕ) → c < CELLS
    → (neg_ℤ (pos (2 ^ 60)) ≤ℤ delta_at holding.pending c) × (delta_at holding.pending c ≤ℤ pos (2 ^ 60))
pending_small holding is c below =
    let law = is.law c below in
    let low = (is.small c below).0 in
    let high = (is.small c below).1 in
    let most = few holding.part is.rules c in
    (omega (arith, ints), omega (arith, ints))

-- an action's change fits what is pending
pub change_fits : (holding : HoldingState) (after : PartState) (notes : List (ℕ × ℤ)) → IsHolding holding → IsPart after → after.width ≡ holding.part.width → IsChange holding.part.width holding.part.book after.book notes → NotesFit holding.pending notes
change_fits holding after notes is rules width change c below =
    let before = pending_small holding is c below in
    let low = before.0 in
    let high = before.1 in
    let law = is.law c below in
    let least = (is.small c below).0 in
    let greatest = (is.small c below).1 in
    let moved = change c below in
    let most : cell holding.part.width c after.book ≤ 2 ^ 40 = subst (λ w. cell w c after.book ≤ 2 ^ 40) width (few after rules c) in
    (omega (arith, ints), omega (arith, ints))

-- a delta that was cleared
pub cleared : (pending : List ℤ) (c : ℕ) → delta_at (set pending c (pos 0)) c ≡ pos 0
cleared pending c = elim (cases_lt c (length pending)) [
  | inl within ↦ get_or-set_same pending c (pos 0) (pos 0) within
  | inr past ↦ get_or_past (set pending c (pos 0)) c (pos 0) (rw length-set past)
]

-- an amount that is posted leaves the desk as wide as it was
pub wide_posted : (view : View) (slot c : ℕ) (amount : ℤ) → IsWide view → IsWide (posted view slot c amount)
wide_posted view slot c amount wide = record { slots = wide.slots; numbers = length-set view.numbers (word_of slot c amount) _ ∙ wide.numbers; seen = wide.seen }

-- what was pending of a cell is published
module _ (part : PartState) (pending pending' : List ℤ) (desk desk' : DeskState) (slot c : ℕ) (amount : ℤ) (is : IsHolding (record { part = part; pending = pending; desk = desk; slot = slot }))
    (owned : desk'.view.owned ≡ desk.view.owned) (whole : amount ≡ delta_at pending c) (moves : NetMoves desk.view desk'.view c amount) (none : pending' ≡ set pending c (pos 0)) (wide : IsWide desk'.view) where
  here : (k : ℕ) → k < CELLS → (k == c) ≡ true → net_of desk'.view k ≡ pos (count_of part k)
  here k below e =
      let same : k ≡ c = grind (arith, nat_tests) in
      let law = is.law k below in
      let moved = rw e at (moves k below) in
      let at_c : delta_at pending k ≡ delta_at pending c = rw same refl in
      omega (arith, ints)

  elsewhere : (k : ℕ) → k < CELLS → (k == c) ≡ false → net_of desk'.view k ≡ net_of desk.view k
  elsewhere k below e = let moved = rw e at (moves k below) in omega (arith, ints)

  pub published : IsHolding (record { part = part; pending = pending'; desk = desk'; slot = slot })
  published = record {
    rules = is.rules;
    slot = rw owned is.slot;
    law = λ k below. rw none (by_test (k == c)
        (λ e. let same : k ≡ c = grind (arith, nat_tests) in let gone : delta_at (set pending c (pos 0)) k ≡ pos 0 = rw same (cleared pending c) in rw (here k below e, gone) (omega (arith, ints)))
        (λ e. let apart : k ≡ c → ⊥ = grind (arith, nat_tests) in rw (elsewhere k below e, get_or-set_other pending c k (pos 0) (pos 0) apart) (is.law k below)));
    small = λ k below. by_test (k == c)
        (λ e. let most = few part is.rules k in rw (here k below e) (omega (arith, ints), omega (arith, ints)))
        (λ e. rw (elsewhere k below e) (is.small k below));
    wide = wide;
  }

-- one more cell is told
pub one_told : (amount : ℕ → ℤ) (deltas : List ℤ) (n at : ℕ) (value : ℤ) → length deltas ≡ CELLS → n < CELLS → at ≡ n → value ≡ amount n
    → ((c : ℕ) → c < n → delta_at deltas c ≡ amount c) → (c : ℕ) → c < n + 1 → delta_at (set deltas at value) c ≡ amount c
one_told amount deltas n at value wide below there is told c within = rw there (by_test (c == n)
    (λ e. let same : c ≡ n = grind (arith, nat_tests) in rw same (get_or-set_same deltas n value (pos 0) (omega arith) ∙ is))
    (λ e. let apart : c ≡ n → ⊥ = grind (arith, nat_tests) in get_or-set_other deltas n c value (pos 0) apart ∙ told c (grind (arith, nat_tests))))

-- the net of a desk with one slot is that of the slot that postings raise
pub own_net : (holding : HoldingState) → IsHolding holding → (slot : ℕ) × OwnsAlone holding.desk.view slot → (c : ℕ) → net_of holding.desk.view c ≡ slot_net holding.desk.view.numbers c holding.slot
own_net holding is alone c =
    let same : holding.slot ≡ alone.0 = alone.1.1 holding.slot is.slot.0 in
    rw same (net_alone holding.desk.view c alone.0 alone.1)
