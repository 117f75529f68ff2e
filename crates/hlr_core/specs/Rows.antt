-- What calls of their own read of rows, but no event does: a facility, a forwarding, and the subscriber who has a
-- number; and the answers to many questions at once.
use Rattle.std.specs.Prelude.{◌≡◌, ℕ, ◌<◌, ◌&&◌, List, [], ◌∷◌, length, Option, Some, None, Result, Err, if◌then◌else◌, ok_or, slice_index_or}
use Rattle.tatp_rows.specs.Rows.{SubscriberRow, AccessInfoRow, SpecialFacilityRow, CallForwardingRow, is_start_time}
use Rattle.tatp_rows.specs.declared.refusal.Refusal.{Refusal}
use Rattle.tatp_rows.specs.declared.refusal.Refusal.TheVariants.{Field, NoAccess, NoDestination, NoNumber, NoSubscriber}
use Rattle.tatp_actions.specs.Action.{is_typed}
use Rattle.tatp_actions.specs.declared.action.RowReply.TheVariants as row_reply
use Rattle.hlr_owners.specs.Read.{facility_answer, forwarding_answer}
use Rattle.hlr_owners.specs.Owners.{OwnersState, store_in}
use Rattle.hlr_owners.specs.Store.{Store}
use Rattle.hlr_core.specs.WhileOut.{IsStepWhileOut}
use Rattle.hlr_core.specs.Numbers.{bearer_id}
use Rattle.hlr_core.specs.Step.{IsStep}
use Rattle.hlr_core.specs.declared.event.Event.{Event}
use Rattle.hlr_core.specs.declared.event.Reply.{Reply}
use Rattle.hlr_core.specs.declared.event.Reply.TheVariants as reply

-- the row of a facility, or the first refusal that applies of Field, Moving and NoFacility
abbrev pub facility_read : ℕ → ℕ → Store → Result SpecialFacilityRow Refusal
facility_read s_id sf_type store = if is_typed s_id sf_type then facility_answer s_id sf_type store else Err Field

-- the row of a forwarding, or the first refusal that applies of Field, Moving and NoForwarding
abbrev pub forwarding_read : ℕ → ℕ → ℕ → Store → Result CallForwardingRow Refusal
forwarding_read s_id sf_type start_time store =
    if is_typed s_id sf_type && is_start_time start_time then forwarding_answer s_id sf_type start_time store else Err Field

-- the subscriber who has a number, or NoNumber
abbrev pub bearer_answer : ℕ → Store → Result ℕ Refusal
bearer_answer sub_nbr store = ok_or (bearer_id store.book.subscribers sub_nbr) NoNumber

-- the reply to a read of a subscriber's row, or the refusal if there is none
abbrev pub subscriber_reply : Option SubscriberRow → Reply
subscriber_reply (Some row) = reply.Rows (row_reply.Row row)
subscriber_reply None = reply.Refused NoSubscriber

-- the reply to a read of an access, or the refusal if there is none
abbrev pub access_reply : Option AccessInfoRow → Reply
access_reply (Some row) = reply.Rows (row_reply.AccessRow row.data1 row.data2 row.data3 row.data4)
access_reply None = reply.Refused NoAccess

-- the reply to a read of the numbers to which a call is forwarded, or the refusal if there are none
abbrev pub numbers_reply : List ℕ → Reply
numbers_reply [] = reply.Refused NoDestination
numbers_reply (number ∷ numbers) = reply.Rows (row_reply.Numbers (record { items = number ∷ numbers }))

-- what was found for each question is the reply to its event, by a right step that changes nothing, regardless of what
-- jobs have done to the lent holdings
pub record AreFound {Q F : Type 0} (event : Q → Event) (told : F → Reply) (h : OwnersState) (asked : List Q) (found : List F) : Type 0 where
  pub as_many : length found ≡ length asked
  pub steps : (at : ℕ) (question : Q) (one : F) → at < length asked
      → IsStep (event (slice_index_or asked at question)) (store_in h) (told (slice_index_or found at one)) (store_in h)
  pub while_out : (at : ℕ) (question : Q) (one : F) → at < length asked
      → IsStepWhileOut (event (slice_index_or asked at question)) h (told (slice_index_or found at one)) h
