-- What the register does while holdings are lent is right no matter what these have become.
use Rattle.std.specs.Prelude.{ℕ, List, Result}
use Rattle.tatp_rows.specs.declared.refusal.Refusal.{Refusal}
use Rattle.holding.specs.Held.{HoldingState}
use Rattle.hlr_owners.specs.Out.{with_outs}
use Rattle.hlr_owners.specs.Recut.{IsRecut}
use Rattle.hlr_owners.specs.Owners.{OwnersState, store_in}
use Rattle.hlr_core.specs.Home.{AreHomesAfter, HaveSameHomes}
use Rattle.hlr_core.specs.Later.{AreLater, with_owners}
use Rattle.hlr_core.specs.Step.{IsStep}
use Rattle.hlr_core.specs.declared.event.Event.{Event}
use Rattle.hlr_core.specs.declared.event.Reply.{Reply}

-- a register with these holdings in the places of the lent ones, by the numbers of their parts
abbrev pub register_with : OwnersState → List HoldingState → OwnersState
register_with h holdings = with_owners h (with_outs h.owners holdings)

-- a right step, regardless of what jobs have done to the lent holdings
abbrev pub IsStepWhileOut : Event → OwnersState → Reply → OwnersState → Type 0
IsStepWhileOut event before answer after =
    (holdings : List HoldingState) → AreLater before.owners (with_outs before.owners holdings)
    → IsStep event (store_in (register_with before holdings)) answer (store_in (register_with after holdings))

-- a right recut, regardless of what jobs have done to the lent holdings
abbrev pub IsRecutWhileOut : List ℕ → OwnersState → Result ℕ Refusal → OwnersState → Type 0
IsRecutWhileOut bounds before answer after =
    (holdings : List HoldingState) → AreLater before.owners (with_outs before.owners holdings)
    → IsRecut bounds (store_in (register_with before holdings)) answer (store_in (register_with after holdings))

-- a right step of a register: of the store as which it is seen, and also regardless of what jobs have done to the lent
-- parts, which stay lent
pub record IsRegisterStep (event : Event) (before : OwnersState) (answer : Reply) (after : OwnersState) : Type 0 where
  pub step : IsStep event (store_in before) answer (store_in after)
  pub homes : AreHomesAfter event answer before after
  pub while_out : IsStepWhileOut event before answer after

-- a right recut of a register, in the same way
pub record IsRegisterRecut (bounds : List ℕ) (before : OwnersState) (answer : Result ℕ Refusal) (after : OwnersState) : Type 0 where
  pub recut : IsRecut bounds (store_in before) answer (store_in after)
  pub homes : HaveSameHomes before after
  pub while_out : IsRecutWhileOut bounds before answer after
