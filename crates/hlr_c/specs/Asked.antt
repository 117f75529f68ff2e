-- What a call from C asks the register for, where its fields are in range.
use Rattle.std.specs.Prelude.{ℕ, ◌==◌, nat_le, List, take, if◌then◌else◌, Result, Ok, Err}
use Rattle.tatp_rows.specs.Number.{number_of}
use Rattle.tatp_rows.specs.Rows.{SubscriberRow, AccessInfoRow, SpecialFacilityRow, subscriber_of, access_of, facility_of}
use Rattle.tatp_rows.specs.declared.refusal.Refusal.{Refusal}
use Rattle.tatp_rows.specs.declared.refusal.Refusal.TheVariants.{Field}
use Rattle.tatp_actions.specs.declared.action.Action.{Action}
use Rattle.tatp_actions.specs.declared.action.Action.TheVariants as action
use Rattle.part_table.specs.declared.region.Side.{Side}
use Rattle.part_table.specs.declared.region.Side.TheVariants.{Low, High}
use Rattle.hlr_core.specs.declared.event.Event.{Event}
use Rattle.hlr_core.specs.declared.event.Event.TheVariants as event
use Rattle.hlr_c.specs.declared.rows.HlrBounds.{HlrBounds}

-- what a field that is in range makes, an event or an action; or the refusal
abbrev pub asks : {X Y : Type 0} → (X → Y) → Result X Refusal → Result Y Refusal
asks make (Ok field) = Ok (make field)
asks make (Err why) = Err why

-- the event of two such fields
abbrev pub asks_both : {X Y : Type 0} → (X → Y → Event) → Result X Refusal → Result Y Refusal → Result Event Refusal
asks_both event (Ok field) other = asks (event field) other
asks_both event (Err why) other = Err why

-- UPDATE_LOCATION of a number
abbrev pub location_asked : ℕ → ℕ → Result Event Refusal
location_asked sub_nbr vlr_location = asks (λ number. event.UpdateLocation number vlr_location) (number_of sub_nbr)

-- INSERT_CALL_FORWARDING of a number, to a number
abbrev pub insertion_asked : ℕ → ℕ → ℕ → ℕ → ℕ → Result Event Refusal
insertion_asked sub_nbr sf_type start_time end_time numberx =
    asks_both (λ number to. event.InsertForwarding number sf_type start_time end_time to) (number_of sub_nbr) (number_of numberx)

-- DELETE_CALL_FORWARDING of a number
abbrev pub deletion_asked : ℕ → ℕ → ℕ → Result Event Refusal
deletion_asked sub_nbr sf_type start_time = asks (λ number. event.DeleteForwarding number sf_type start_time) (number_of sub_nbr)

-- a row that is added
abbrev pub subscriber_asked : SubscriberRow → Result Event Refusal
subscriber_asked row = asks event.AddSubscriber (subscriber_of row)

-- an access that C hands in to be added
abbrev pub access_asked : AccessInfoRow → Result Event Refusal
access_asked row = asks event.AddAccess (access_of row)

-- a facility that C hands in to be added
abbrev pub facility_asked : SpecialFacilityRow → Result Event Refusal
facility_asked row = asks event.AddFacility (facility_of row)

-- another number for a subscriber
abbrev pub number_asked : ℕ → ℕ → Result Event Refusal
number_asked s_id sub_nbr = asks (event.SetNumber s_id) (number_of sub_nbr)

-- 0 is the low side, 1 the high one
abbrev pub side_of : ℕ → Result Side Refusal
side_of side = if side == 0 then Ok Low else (if side == 1 then Ok High else Err Field)

-- a give to a side
abbrev pub give_asked : ℕ → ℕ → ℕ → Result Event Refusal
give_asked part side at = asks (λ to. event.Give part to at) (side_of side)

-- the bounds that are handed in: as many as their count says, at most 15
abbrev pub bounds_in : HlrBounds → Result (List ℕ) Refusal
bounds_in bounds = if nat_le bounds.count 15 then Ok (take bounds.count bounds.bounds) else Err Field

-- a forwarding to a number, of a part's facility
abbrev pub part_insertion_asked : ℕ → ℕ → ℕ → ℕ → ℕ → Result Action Refusal
part_insertion_asked s_id sf_type start_time end_time numberx =
    asks
    (λ to. action.InsertForwarding (record { s_id = s_id; sf_type = sf_type; start_time = start_time; end_time = end_time; numberx = to }))
    (number_of numberx)

-- an access that is added to a part
abbrev pub part_access_asked : AccessInfoRow → Result Action Refusal
part_access_asked row = asks action.AddAccess (access_of row)

-- a facility that is added to a part
abbrev pub part_facility_asked : SpecialFacilityRow → Result Action Refusal
part_facility_asked row = asks action.AddFacility (facility_of row)
