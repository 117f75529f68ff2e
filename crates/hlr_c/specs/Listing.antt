-- What C reads of rows that no event reads. The register stays as it is.
use Rattle.std.specs.Prelude.{◌≡◌, ◌⊎◌, ◌&&◌, ℕ, Bool, true, List, Result, Ok, Err, ok_or}
use Rattle.tatp_rows.specs.Number.{number_of}
use Rattle.tatp_rows.specs.Refusal.{code_of}
use Rattle.tatp_rows.specs.Rows.{SubscriberRow, SpecialFacilityRow, CallForwardingRow, is_start_time}
use Rattle.tatp_rows.specs.declared.refusal.Refusal.{Refusal}
use Rattle.tatp_rows.specs.declared.refusal.Refusal.TheVariants.{NoSubscriber}
use Rattle.tatp_actions.specs.Action.{is_typed}
use Rattle.tatp_actions.specs.Book.{first_subscriber}
use Rattle.holding.specs.Held.{HoldingState}
use Rattle.hlr_owners.specs.Out.{with_outs}
use Rattle.hlr_owners.specs.Owners.{OwnersState, IsHomeFor, book_in, store_in}
use Rattle.hlr_core.specs.WhileOut.{register_with}
use Rattle.hlr_core.specs.Later.{AreLater}
use Rattle.hlr_core.specs.Rows.{bearer_answer, facility_read, forwarding_read}
use Rattle.hlr_c.specs.declared.codes.TheConstants.{DONE}

-- an answer with what is read, after which the register is as it was
abbrev pub IsRead : {R X : Type 0} → (OwnersState → Result R Refusal) → (Result R Refusal → X) → OwnersState → X → OwnersState → Type 0
IsRead read told before answer after = (after ≡ before) × (answer ≡ told (read before))

-- the same, regardless of what jobs have done to the lent parts
pub record IsReadWhileOut {R X : Type 0} (read : OwnersState → Result R Refusal) (told : Result R Refusal → X) (before : OwnersState) (answer : X) (after : OwnersState) : Type 0 where
  pub here : IsRead read told before answer after
  pub while_out : (holdings : List HoldingState) → AreLater before.owners (with_outs before.owners holdings)
      → answer ≡ told (read (register_with before holdings))

-- the same for the rows of a subscriber; or the answer says that the part of the subscriber is lent, exactly if it is
-- and the fields are in range
abbrev pub IsReadAt : {R X : Type 0} → ℕ → Bool → (OwnersState → Result R Refusal) → (Result R Refusal → X) → X → OwnersState → X → OwnersState → Type 0
IsReadAt s_id fits read told away before answer after =
    ((answer ≡ away) × (fits ≡ true) × ¬ (IsHomeFor s_id before) × (after ≡ before))
    ⊎ ((fits ≡ true → IsHomeFor s_id before) × IsReadWhileOut read told before answer after)

-- the code, and what was read; a refusal leaves the value as it was
abbrev pub value_told : {R : Type 0} → R → Result R Refusal → ℕ × R
value_told before (Ok value) = (DONE, value)
value_told before (Err why) = (code_of why, before)

-- the code, and the end and the number of a forwarding
abbrev pub forwarding_told : ℕ × ℕ → Result CallForwardingRow Refusal → ℕ × (ℕ × ℕ)
forwarding_told before (Ok row) = (DONE, (row.end_time, row.numberx))
forwarding_told before (Err why) = (code_of why, before)

-- the row of a facility
abbrev pub facility_in : ℕ → ℕ → OwnersState → Result SpecialFacilityRow Refusal
facility_in s_id sf_type register = facility_read s_id sf_type (store_in register)

-- the fields of a forwarding's key are in range
abbrev pub has_key : ℕ → ℕ → ℕ → Bool
has_key s_id sf_type start_time = is_typed s_id sf_type && is_start_time start_time

-- the row of a forwarding
abbrev pub forwarding_in : ℕ → ℕ → ℕ → OwnersState → Result CallForwardingRow Refusal
forwarding_in s_id sf_type start_time register = forwarding_read s_id sf_type start_time (store_in register)

-- the subscriber who has a number, if it is one
abbrev pub bearer_found : Result ℕ Refusal → OwnersState → Result ℕ Refusal
bearer_found (Ok number) register = bearer_answer number (store_in register)
bearer_found (Err why) register = Err why

-- the subscriber who has a number, or the first refusal that applies of Field and NoNumber
abbrev pub bearer_in : ℕ → OwnersState → Result ℕ Refusal
bearer_in sub_nbr = bearer_found (number_of sub_nbr)

-- the first subscriber whose s_id is this one or higher, or NoSubscriber
abbrev pub subscriber_from : ℕ → OwnersState → Result SubscriberRow Refusal
subscriber_from from register = ok_or (first_subscriber from (book_in register.owners).subscribers) NoSubscriber
