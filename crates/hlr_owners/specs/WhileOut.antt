-- What is done to owners while holdings are lent, and is right no matter what these have become.
use Rattle.std.specs.Prelude.{◌≡◌, ℕ, List, Result}
use Rattle.std.specs.List.{AllZip}
use Rattle.tatp_rows.specs.declared.refusal.Refusal.{Refusal}
use Rattle.tatp_actions.specs.Action.{s_id_of}
use Rattle.tatp_actions.specs.declared.action.Action.{Action}
use Rattle.tatp_actions.specs.declared.action.RowReply.{RowReply}
use Rattle.holding.specs.Held.{HoldingState}
use Rattle.hlr_owners.specs.Answered.{IsAnswered, is_loose}
use Rattle.hlr_owners.specs.Out.{with_outs}
use Rattle.hlr_owners.specs.Posting.{IsPosting}
use Rattle.hlr_owners.specs.Read.{HasRowsOf, IsRead}
use Rattle.hlr_owners.specs.Owners.{OwnersState, IsLaterOwner, store_in}
use Rattle.hlr_owners.specs.Store.{Store, slots_of}
use Rattle.hlr_owners.specs.declared.part_owner.RegionOwner.{RegionOwner}

-- holdings that the lent ones may have become
abbrev pub MayBecome : List RegionOwner → List HoldingState → Type 0
MayBecome owners holdings = AllZip IsLaterOwner owners (with_outs owners holdings)

-- the store with these holdings in the places of the lent ones
abbrev pub store_with : OwnersState → List HoldingState → Store
store_with h holdings = store_in (record h { owners = with_outs h.owners holdings })

-- an action has this reply, and changes only rows, no matter what they have become
abbrev pub IsAnsweredWhileOut : Action → OwnersState → RowReply → OwnersState → Type 0
IsAnsweredWhileOut act before answer after =
    (holdings : List HoldingState) → MayBecome before.owners holdings
    → IsAnswered (is_loose (s_id_of act) before.regions) act (store_with before holdings).book answer (store_with after holdings).book
    × (store_with after holdings ≡ record (store_with before holdings) { book = (store_with after holdings).book })

-- only the regions change, no matter what they have become
abbrev pub IsMovedWhileOut : OwnersState → OwnersState → Type 0
IsMovedWhileOut before after =
    (holdings : List HoldingState) → MayBecome before.owners holdings
    → store_with after holdings ≡ record (store_with before holdings) { regions = after.regions }

-- a subscriber is in a part, and a read of the part's rows has the same answer as a read of all rows, no matter what
-- they have become
abbrev pub HasRowsWhileOut : ℕ → OwnersState → HoldingState → Type 0
HasRowsWhileOut s_id h holding = (holdings : List HoldingState) → MayBecome h.owners holdings → HasRowsOf s_id (store_with h holdings) holding

-- an action with this reply leaves the store as it is, no matter what they have become
abbrev pub IsReadWhileOut : Action → OwnersState → RowReply → Type 0
IsReadWhileOut act h answer = (holdings : List HoldingState) → MayBecome h.owners holdings → IsRead act (store_with h holdings) answer

-- a posting to a part is a right one, no matter what they have become
abbrev pub IsPostedWhileOut : ℕ → ℕ → OwnersState → Result ℕ Refusal → OwnersState → Type 0
IsPostedWhileOut part limit before answer after =
    (holdings : List HoldingState) → MayBecome before.owners holdings
    → IsPosting (slots_of (store_with before holdings) part) part limit (store_with before holdings) answer (store_with after holdings)
