-- What an edit on rows asks for, once the plain numbers of an event are checked.
use Rattle.std.specs.Prelude.{◌≡◌, ◌+◌, Bool, true, false, Option, Some, None, Result, Ok, Err}
use Rattle.tatp_rows.specs.declared.refusal.Refusal.{Refusal}
use Rattle.tatp_rows.specs.declared.refusal.Refusal.TheVariants as refusal
use Rattle.tatp_rows.specs.declared.ranges.TheConstants.{LAST_SUBSCRIBER}
use Rattle.tatp_actions.specs.Action.{is_in_range, s_id_of}
use Rattle.tatp_actions.specs.Book.{IsWithin}
use Rattle.tatp_actions.specs.declared.action.Action.{Action}
use Rattle.hlr_core.specs.Step.{given_number}

-- an action on the rows of an existing s_id that gives no number
abbrev pub IsRowAction : Action → Type 0
IsRowAction act = IsWithin 1 (LAST_SUBSCRIBER + 1) (s_id_of act) × (given_number act ≡ None)

-- the action that an edit asks for, where an edit is an action as a type of its own
abbrev pub action_asked : {E : Type 0} → (E → Action) → Result E Refusal → Result Action Refusal
action_asked action (Ok edit) = Ok (action edit)
action_asked action (Err why) = Err why

-- an event whose fields are in range or not, and which asks for an action or finds no subscriber, asks for that action
-- or is refused; the action may still have a field out of range
abbrev pub IsAsked : Bool → Option Action → Result Action Refusal → Type 0
IsAsked fits wanted (Ok act) = (wanted ≡ Some act) × (fits ≡ is_in_range act)
IsAsked false wanted (Err why) = why ≡ refusal.Field
IsAsked true None (Err why) = why ≡ refusal.NoNumber
IsAsked true (Some act) (Err why) = ⊥

-- an event that names its subscriber asks for its action
abbrev pub IsAskedAlone : Action → Result Action Refusal → Type 0
IsAskedAlone act = IsAsked (is_in_range act) (Some act)
