-- The net of a desk with one slot, and of one whose slots have none.
use Rattle.view_board.proofs.Common.{◌≡◌, ℕ, zero, suc, ◌+◌, ◌<◌, List, [], ◌∷◌, get_or, replicate, Bool, true, false, refl, subst, ◌∙◌, arith, pos, false≢true, ints, length-set, length-replicate, get_or-set_same, View, SLOTS, slot_net, Owns, OwnsAlone, IsWide, alone, without, net_of}
use Rattle.view_board.specs.Nets.{net_from}
use Rattle.view_board.proofs.SplitLemmas.{only_slot}

module _ (words : List ℕ) (cell : ℕ) where
  -- the nets of slots that have none
  pub net_from-none : (flags : List Bool) (start : ℕ) → ((k : ℕ) → get_or flags k false ≡ true → slot_net words cell (start + k) ≡ pos 0) → net_from flags start words cell ≡ pos 0
  unfolding net_from
  net_from-none [] start none = refl
  net_from-none (flag ∷ flags) start none =
      let rest = net_from-none flags (start + 1) (λ k own. subst (λ (s : ℕ). slot_net words cell s ≡ pos 0) (omega arith) (none (suc k) own)) in
      head flag (λ own. subst (λ (s : ℕ). slot_net words cell s ≡ pos 0) (omega arith) (none 0 own)) rest
    where
      head : (flag : Bool) → (flag ≡ true → slot_net words cell start ≡ pos 0) → net_from flags (start + 1) words cell ≡ pos 0 → net_from (flag ∷ flags) start words cell ≡ pos 0
      head true here rest = let none = here refl in omega (arith, ints, none, rest)
      head false here rest = omega (arith, ints, rest)

  -- the nets of slots of which one is named
  pub net_from-one : (flags : List Bool) (start at : ℕ) → get_or flags at false ≡ true → ((k : ℕ) → get_or flags k false ≡ true → k ≡ at) → net_from flags start words cell ≡ slot_net words cell (start + at)
  unfolding net_from
  net_from-one [] start at own only = absurd (false≢true own)
  net_from-one (true ∷ flags) start zero own only =
      let rest = net_from-none flags (start + 1) (λ k other. absurd (let none = only (suc k) other in omega arith)) in
      let here : slot_net words cell (start + 0) ≡ slot_net words cell start = subst (λ (s : ℕ). slot_net words cell s ≡ slot_net words cell start) (omega arith) refl in
      omega (arith, ints, rest, here)
  net_from-one (false ∷ flags) start zero own only = absurd (false≢true own)
  net_from-one (true ∷ flags) start (suc at) own only = absurd (let none = only 0 refl in omega arith)
  net_from-one (false ∷ flags) start (suc at) own only =
      let rest = net_from-one flags (start + 1) at own (λ k other. let same = only (suc k) other in omega arith) in
      let here : slot_net words cell (start + suc at) ≡ slot_net words cell (start + 1 + at) = subst (λ (s : ℕ). slot_net words cell s ≡ slot_net words cell (start + 1 + at)) (omega arith) refl in
      omega (arith, ints, rest, here)

-- a desk whose slots have no net has none
pub net_none : (v : View) (c : ℕ) → ((slot : ℕ) → Owns v slot → slot_net v.numbers c slot ≡ pos 0) → net_of v c ≡ pos 0
net_none v c none = net_from-none v.numbers c v.owned 0 (λ slot own. subst (λ (s : ℕ). slot_net v.numbers c s ≡ pos 0) (omega arith) (none slot own))

-- the net of a desk with one slot is the slot's
pub net_alone : (v : View) (c slot : ℕ) → OwnsAlone v slot → net_of v c ≡ slot_net v.numbers c slot
net_alone v c slot own = subst (λ (s : ℕ). net_of v c ≡ slot_net v.numbers c s) (omega arith) (net_from-one v.numbers c v.owned 0 slot own.0 own.1)

-- a slot that was split off is the new desk's alone, whose net is the slot's
pub owns_alone : (v : View) (slot : ℕ) → slot < SLOTS → OwnsAlone (alone v slot) slot
owns_alone v slot in_board = (get_or-set_same (replicate SLOTS false) slot true false (rw (length-replicate SLOTS false) in_board), only_slot v slot)

-- both desks are as wide as the one before
pub wide_alone : (v : View) (slot : ℕ) → IsWide v → IsWide (alone v slot)
wide_alone v slot wide = record { slots = length-set (replicate SLOTS false) slot true ∙ length-replicate SLOTS false; numbers = wide.numbers; seen = wide.seen }

pub wide_without : (v : View) (slot : ℕ) → IsWide v → IsWide (without v slot)
wide_without v slot wide = record { slots = length-set v.owned slot false ∙ wide.slots; numbers = wide.numbers; seen = wide.seen }
