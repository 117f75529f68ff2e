-- What a call from C does to the handle that it is passed, and what it returns.
use Rattle.std.specs.Prelude.{◌≡◌, ◌⊎◌, List, ℕ, Option, Some, None, Result, Ok, Err}
use Rattle.tatp_rows.specs.declared.refusal.Refusal.{Refusal}
use Rattle.hlr_owners.specs.Recut.{IsHomeToCut}
use Rattle.hlr_owners.specs.Owners.{AllHome, OwnersState}
use Rattle.hlr_core.specs.WhileOut.{IsRegisterRecut, IsRegisterStep}
use Rattle.hlr_core.specs.declared.event.Event.{Event}
use Rattle.hlr_core.specs.declared.event.Reply.{Reply}
use Rattle.hlr_core.specs.declared.event.Reply.TheVariants as reply
use Rattle.hlr_lent.specs.Away.{IsAway}

-- a call on a handle: a closed one stays closed, and the answer says so; for an open one, the call does to its register
-- or part what it should, and the handle keeps that
abbrev pub IsCall : {S X : Type 0} → X → (S → X → S → Type 0) → Option S → X → Option S → Type 0
IsCall closed Does None answer after = (answer ≡ closed) × (after ≡ None)
IsCall closed Does (Some kept) answer None = ⊥
IsCall closed Does (Some kept) answer (Some next) = Does kept answer next

-- a reply to what is asked for: by a right step of the event; or the refusal of a field, which changes nothing
abbrev pub IsReply : Result Event Refusal → OwnersState → Reply → OwnersState → Type 0
IsReply (Ok event) before said after = IsRegisterStep event before said after
IsReply (Err why) before said after = (said ≡ reply.Refused why) × (after ≡ before)

-- what is asked for needs a lent part
abbrev pub IsWaiting : Result Event Refusal → OwnersState → Type 0
IsWaiting (Ok event) register = IsAway event register
IsWaiting (Err why) register = ⊥

-- the answer to what is asked for: exactly if this needs a lent part, the answer says so and nothing changes; otherwise
-- it has such a reply
abbrev pub IsAnswer : {X : Type 0} → Result Event Refusal → (Reply → X) → X → OwnersState → X → OwnersState → Type 0
IsAnswer asked told away before answer after =
    ((answer ≡ away) × IsWaiting asked before × (after ≡ before))
    ⊎ (¬ (IsWaiting asked before) × (said : Reply) × IsReply asked before said after × (answer ≡ told said))

-- a recut to bounds, or the refusal of the bounds that C hands in
abbrev pub IsRecutReply : Result (List ℕ) Refusal → OwnersState → Result ℕ Refusal → OwnersState → Type 0
IsRecutReply (Ok bounds) before done after = IsRegisterRecut bounds before done after
IsRecutReply (Err why) before done after = (done ≡ Err why) × (after ≡ before)

-- a bound would move whose parts aren't both home
abbrev pub IsCutWaiting : Result (List ℕ) Refusal → OwnersState → Type 0
IsCutWaiting (Ok bounds) register = ¬ (IsHomeToCut bounds register)
IsCutWaiting (Err why) register = ⊥

-- the answer to a recut: exactly if it needs a lent part, the answer says so and nothing changes; otherwise it says
-- what the recut did
abbrev pub IsRecutAnswer : {X : Type 0} → Result (List ℕ) Refusal → (Result ℕ Refusal → X) → X → OwnersState → X → OwnersState → Type 0
IsRecutAnswer asked told away before answer after =
    ((answer ≡ away) × IsCutWaiting asked before × (after ≡ before))
    ⊎ (¬ (IsCutWaiting asked before) × (done : Result ℕ Refusal)
    × IsRecutReply asked before done after × (answer ≡ told done))

-- what is done if all parts are home; if one is lent, the answer says so, and nothing changes
abbrev pub IsAtHome : {X : Type 0} → X → (OwnersState → X → OwnersState → Type 0) → OwnersState → X → OwnersState → Type 0
IsAtHome away Does before answer after =
    ((answer ≡ away) × ¬ (AllHome before.owners) × (after ≡ before)) ⊎ (AllHome before.owners × Does before answer after)
