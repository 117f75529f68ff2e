-- What an event on rows asks for.
use Rattle.std.specs.Prelude.{⊤, Bool, List, Option}
use Rattle.tatp_actions.specs.declared.action.Action.{Action}
use Rattle.holding.specs.Held.{HoldingState}
use Rattle.hlr_owners.specs.Out.{with_outs}
use Rattle.hlr_owners.specs.Owners.{OwnersState, store_in}
use Rattle.hlr_owners.specs.Store.{Store}
use Rattle.hlr_core.specs.WhileOut.{register_with}
use Rattle.hlr_core.specs.Later.{AreLater}
use Rattle.hlr_core.specs.Step.{IsAskedStep, checked}
use Rattle.hlr_core.specs.declared.event.Event.{Event}
use Rattle.hlr_core.specs.declared.event.Event.TheVariants as event
use Rattle.hlr_core.specs.declared.event.Reply.{Reply}

-- an event that changes rows
abbrev pub ChangesRows : Event → Type 0
ChangesRows (event.SubscriberData s_id) = ⊥
ChangesRows (event.NewDestination s_id sf_type start_time end_time) = ⊥
ChangesRows (event.AccessData s_id ai_type) = ⊥
ChangesRows (event.Post part limit) = ⊥
ChangesRows (event.Give part side at) = ⊥
ChangesRows (event.Take piece part) = ⊥
ChangesRows (event.Divide part at) = ⊥
ChangesRows (event.Dissolve part) = ⊥
ChangesRows change = ⊤

-- a right step of an event whose fields are in range or not, and that wants an action or finds no subscriber
abbrev pub IsRowStep : Bool → Option Action → Store → Reply → Store → Type 0
IsRowStep fits wanted before answer after = IsAskedStep (checked fits wanted) before answer after

-- the same, regardless of what jobs have done to the lent holdings
abbrev pub IsRowStepWhileOut : Bool → Option Action → OwnersState → Reply → OwnersState → Type 0
IsRowStepWhileOut fits wanted before answer after =
    (holdings : List HoldingState) → AreLater before.owners (with_outs before.owners holdings)
    → IsRowStep fits wanted (store_in (register_with before holdings)) answer (store_in (register_with after holdings))
