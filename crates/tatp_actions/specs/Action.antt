-- What each action answers, and the book after it.
use Rattle.std.specs.Prelude.{◌≡◌, ℕ, ◌==◌, ◌&&◌, nat_le, nat_lt, Bool, true, false, List, [], ◌∷◌, map, Option, Some, None, Result, Ok, Err, if◌then◌else◌, slice_set, ◌⊎◌}
use Rattle.std.specs.List.{filter}
use Rattle.tatp_rows.specs.Number.{is_number}
use Rattle.tatp_rows.specs.Rows.{SubscriberRow, AccessInfoRow, SpecialFacilityRow, CallForwardingRow, is_between, is_start_time, subscriber_in_range, access_in_range, facility_in_range, forwarding_in_range}
use Rattle.tatp_rows.specs.declared.ranges.TheConstants.{LAST_SUBSCRIBER}
use Rattle.tatp_rows.specs.declared.refusal.Refusal.{Refusal}
use Rattle.tatp_rows.specs.declared.refusal.Refusal.TheVariants as refusal
use Rattle.tatp_actions.specs.Book.{Book, subscriber_at, access_at, facility_at, has_active, forwarding_at, put_subscriber, put_facility, more_subscribers, more_access, more_facilities, more_forwardings, without_forwarding}
use Rattle.tatp_actions.specs.declared.action.Action.{Action}
use Rattle.tatp_actions.specs.declared.action.Action.TheVariants.{SubscriberData, NewDestination, AccessData, UpdateSubscriber, UpdateLocation, InsertForwarding, DeleteForwarding, AddSubscriber, AddAccess, AddFacility, SetActive, SetNumber}
use Rattle.tatp_actions.specs.declared.action.RowReply.{RowReply}
use Rattle.tatp_actions.specs.declared.action.RowReply.TheVariants as reply

-- the subscriber of an action
abbrev pub s_id_of : Action → ℕ
s_id_of (SubscriberData s_id) = s_id
s_id_of (NewDestination s_id sf_type start_time end_time) = s_id
s_id_of (AccessData s_id ai_type) = s_id
s_id_of (UpdateSubscriber s_id sf_type bit_1 data_a) = s_id
s_id_of (UpdateLocation s_id vlr_location) = s_id
s_id_of (InsertForwarding row) = row.s_id
s_id_of (DeleteForwarding s_id sf_type start_time) = s_id
s_id_of (AddSubscriber row) = row.s_id
s_id_of (AddAccess row) = row.s_id
s_id_of (AddFacility row) = row.s_id
s_id_of (SetActive s_id sf_type is_active) = s_id
s_id_of (SetNumber s_id sub_nbr) = s_id

-- the s_id and the type of an action are in range
abbrev pub is_typed : ℕ → ℕ → Bool
is_typed s_id kind = is_between 1 LAST_SUBSCRIBER s_id && is_between 1 4 kind

-- the fields of an action are in range
abbrev pub is_in_range : Action → Bool
is_in_range (SubscriberData s_id) = is_between 1 LAST_SUBSCRIBER s_id
is_in_range (NewDestination s_id sf_type start_time end_time) =
    is_typed s_id sf_type && (is_start_time start_time && is_between 1 24 end_time)
is_in_range (AccessData s_id ai_type) = is_typed s_id ai_type
is_in_range (UpdateSubscriber s_id sf_type bit_1 data_a) =
    is_typed s_id sf_type && (is_between 0 1 bit_1 && is_between 0 255 data_a)
is_in_range (UpdateLocation s_id vlr_location) = is_between 1 LAST_SUBSCRIBER s_id && is_between 1 4294967295 vlr_location
is_in_range (InsertForwarding row) = forwarding_in_range row
is_in_range (DeleteForwarding s_id sf_type start_time) = is_typed s_id sf_type && is_start_time start_time
is_in_range (AddSubscriber row) = subscriber_in_range row
is_in_range (AddAccess row) = access_in_range row
is_in_range (AddFacility row) = facility_in_range row
is_in_range (SetActive s_id sf_type is_active) = is_typed s_id sf_type && is_between 0 1 is_active
is_in_range (SetNumber s_id sub_nbr) = is_between 1 LAST_SUBSCRIBER s_id && is_number sub_nbr

-- GET_SUBSCRIBER_DATA: the row that was found
abbrev pub subscriber_data : Book → Option SubscriberRow → RowReply × Book
subscriber_data book None = (reply.Refused refusal.NoSubscriber, book)
subscriber_data book (Some row) = (reply.Row row, book)

-- a forwarding of this facility takes a call: it starts no later than the call, and ends after it
abbrev pub takes_call : ℕ → ℕ → ℕ → ℕ → CallForwardingRow → Bool
takes_call s_id sf_type start_time end_time row =
    (row.s_id == s_id && row.sf_type == sf_type) && (nat_le row.start_time start_time && nat_lt end_time row.end_time)

-- the numbers of the facility's forwardings that take the call, by their start times; none where it isn't active
abbrev pub destinations : Book → ℕ → ℕ → ℕ → ℕ → List ℕ
destinations book s_id sf_type start_time end_time =
    if has_active (facility_at book s_id sf_type) then map (λ row. row.numberx) (filter (takes_call s_id sf_type start_time end_time) book.forwardings)
    else []

-- GET_NEW_DESTINATION: the numbers, where there is one
abbrev pub new_destination : Book → List ℕ → RowReply × Book
new_destination book [] = (reply.Refused refusal.NoDestination, book)
new_destination book (number ∷ numbers) = (reply.Numbers (record { items = number ∷ numbers }), book)

-- GET_ACCESS_DATA: the data of the row that was found
abbrev pub access_data : Book → Option AccessInfoRow → RowReply × Book
access_data book None = (reply.Refused refusal.NoAccess, book)
access_data book (Some row) = (reply.AccessRow row.data1 row.data2 row.data3 row.data4, book)

-- UPDATE_SUBSCRIBER_DATA: both rows that were found, the one with another bit_1 and the other with another data_a
abbrev pub update_subscriber : Book → ℕ → ℕ → ℕ → ℕ → Option SubscriberRow → Option SpecialFacilityRow → RowReply × Book
update_subscriber book s_id sf_type bit_1 data_a None facility = (reply.Refused refusal.NoSubscriber, book)
update_subscriber book s_id sf_type bit_1 data_a (Some row) None = (reply.Refused refusal.NoFacility, book)
update_subscriber book s_id sf_type bit_1 data_a (Some row) (Some facility) =
    (reply.Done, put_facility (put_subscriber book s_id (record row { bits = slice_set row.bits 0 bit_1 })) s_id sf_type (record facility { data_a = data_a }))

-- UPDATE_LOCATION: the row that was found, with another location
abbrev pub update_location : Book → ℕ → ℕ → Option SubscriberRow → RowReply × Book
update_location book s_id vlr_location None = (reply.Refused refusal.NoSubscriber, book)
update_location book s_id vlr_location (Some row) = (reply.Done, put_subscriber book s_id (record row { vlr_location = vlr_location }))

-- INSERT_CALL_FORWARDING: a new forwarding of the facility that was found, unless a row with its key was found
abbrev pub insert_forwarding : Book → CallForwardingRow → Option SpecialFacilityRow → Option CallForwardingRow → RowReply × Book
insert_forwarding book row None there = (reply.Refused refusal.NoFacility, book)
insert_forwarding book row (Some facility) None = (reply.Done, more_forwardings book row)
insert_forwarding book row (Some facility) (Some other) = (reply.Refused refusal.Exists, book)

-- DELETE_CALL_FORWARDING: without the row that was found
abbrev pub delete_forwarding : Book → ℕ → ℕ → ℕ → Option CallForwardingRow → RowReply × Book
delete_forwarding book s_id sf_type start_time None = (reply.Refused refusal.NoForwarding, book)
delete_forwarding book s_id sf_type start_time (Some row) = (reply.Done, without_forwarding book s_id sf_type start_time)

-- a new subscriber, unless a row with its key was found
abbrev pub add_subscriber : Book → SubscriberRow → Option SubscriberRow → RowReply × Book
add_subscriber book row None = (reply.Done, more_subscribers book row)
add_subscriber book row (Some other) = (reply.Refused refusal.Exists, book)

-- a new access of the subscriber that was found, unless a row with its key was found
abbrev pub add_access : Book → AccessInfoRow → Option SubscriberRow → Option AccessInfoRow → RowReply × Book
add_access book row None there = (reply.Refused refusal.NoSubscriber, book)
add_access book row (Some subscriber) None = (reply.Done, more_access book row)
add_access book row (Some subscriber) (Some other) = (reply.Refused refusal.Exists, book)

-- a new facility of the subscriber that was found, unless a row with its key was found
abbrev pub add_facility : Book → SpecialFacilityRow → Option SubscriberRow → Option SpecialFacilityRow → RowReply × Book
add_facility book row None there = (reply.Refused refusal.NoSubscriber, book)
add_facility book row (Some subscriber) None = (reply.Done, more_facilities book row)
add_facility book row (Some subscriber) (Some other) = (reply.Refused refusal.Exists, book)

-- the facility that was found, switched on or off
abbrev pub set_active : Book → ℕ → ℕ → ℕ → Option SpecialFacilityRow → RowReply × Book
set_active book s_id sf_type is_active None = (reply.Refused refusal.NoFacility, book)
set_active book s_id sf_type is_active (Some row) = (reply.Done, put_facility book s_id sf_type (record row { is_active = is_active }))

-- the subscriber that was found, with another number
abbrev pub set_number : Book → ℕ → ℕ → Option SubscriberRow → RowReply × Book
set_number book s_id sub_nbr None = (reply.Refused refusal.NoSubscriber, book)
set_number book s_id sub_nbr (Some row) = (reply.Done, put_subscriber book s_id (record row { sub_nbr = sub_nbr }))

-- the answer of an action whose fields are in range, and the book after it; a number that is taken is the register's to
-- refuse
abbrev pub effect : Action → Book → RowReply × Book
effect (SubscriberData s_id) book = subscriber_data book (subscriber_at book s_id)
effect (NewDestination s_id sf_type start_time end_time) book =
    new_destination book (destinations book s_id sf_type start_time end_time)
effect (AccessData s_id ai_type) book = access_data book (access_at book s_id ai_type)
effect (UpdateSubscriber s_id sf_type bit_1 data_a) book =
    update_subscriber book s_id sf_type bit_1 data_a (subscriber_at book s_id) (facility_at book s_id sf_type)
effect (UpdateLocation s_id vlr_location) book = update_location book s_id vlr_location (subscriber_at book s_id)
effect (InsertForwarding row) book =
    insert_forwarding book row (facility_at book row.s_id row.sf_type) (forwarding_at book row.s_id row.sf_type row.start_time)
effect (DeleteForwarding s_id sf_type start_time) book =
    delete_forwarding book s_id sf_type start_time (forwarding_at book s_id sf_type start_time)
effect (AddSubscriber row) book = add_subscriber book row (subscriber_at book row.s_id)
effect (AddAccess row) book = add_access book row (subscriber_at book row.s_id) (access_at book row.s_id row.ai_type)
effect (AddFacility row) book = add_facility book row (subscriber_at book row.s_id) (facility_at book row.s_id row.sf_type)
effect (SetActive s_id sf_type is_active) book = set_active book s_id sf_type is_active (facility_at book s_id sf_type)
effect (SetNumber s_id sub_nbr) book = set_number book s_id sub_nbr (subscriber_at book s_id)

-- the action adds a row, so that memory may be wanted
abbrev pub adds_row : Action → Bool
adds_row (InsertForwarding row) = true
adds_row (AddSubscriber row) = true
adds_row (AddAccess row) = true
adds_row (AddFacility row) = true
adds_row _ = false

-- a field is out of range: Field, and the book as it was
abbrev pub IsFieldRefused : Action → Book → RowReply → Book → Type 0
IsFieldRefused action before answer after =
    (is_in_range action ≡ false) × (answer ≡ reply.Refused refusal.Field) × (after ≡ before)

-- the rows answer: the effect, which is what was read or done, or the refusal of the rows
abbrev pub IsEffect : Action → Book → RowReply → Book → Type 0
IsEffect action before answer after = (is_in_range action ≡ true) × ((answer, after) ≡ effect action before)

-- a row would be added, and memory was refused for it: Memory in place of Done, and the book as it was
abbrev pub IsMemoryRefused : Action → Book → RowReply → Book → Type 0
IsMemoryRefused action before answer after =
    (is_in_range action ≡ true) × (adds_row action ≡ true) × ((effect action before).0 ≡ reply.Done)
    × (answer ≡ reply.Refused refusal.Memory) × (after ≡ before)

-- a right outcome is one of the three; memory is the one free choice
abbrev pub IsOutcome : Action → Book → RowReply → Book → Type 0
IsOutcome action before answer after =
    IsFieldRefused action before answer after
    ⊎ (IsEffect action before answer after ⊎ IsMemoryRefused action before answer after)

-- what an action that changes rows answers: it was done, or refused
abbrev pub done_reply : {A : Type 0} → Result A Refusal → RowReply
done_reply (Ok done) = reply.Done
done_reply (Err why) = reply.Refused why
