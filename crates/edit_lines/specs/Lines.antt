-- The line of an event that changes rows: a letter for its kind, and then its fields, each in a fixed count of digits.
use Rattle.std.specs.Prelude.{ℕ, zero, suc, ◌+◌, ◌%◌, ◌/◌, ◌&&◌, Bool, true, false, List, [], ◌∷◌, ◌++◌, take, drop, codes}
use Rattle.tatp_rows.specs.Number.{is_number}
use Rattle.tatp_rows.specs.Packed.{packed}
use Rattle.tatp_rows.specs.Rows.{is_between, subscriber_in_range, access_in_range, facility_in_range}
use Rattle.tatp_rows.specs.declared.ranges.TheConstants.{LAST_SUBSCRIBER}
use Rattle.tatp_actions.specs.Action.{is_typed}
use Rattle.hlr_core.specs.Step.{has_forwarding_key}
use Rattle.hlr_core.specs.declared.event.Event.{Event}
use Rattle.hlr_core.specs.declared.event.Event.TheVariants.{UpdateSubscriber, UpdateLocation, InsertForwarding, DeleteForwarding, AddSubscriber, AddAccess, AddFacility, SetActive, SetNumber}

-- a number in a count of digits to the base 128, the lowest first, each with its top bit set
unfoldable pub digits : ℕ → ℕ → List ℕ
digits zero n = []
digits (suc count) n = (128 + n % 128) ∷ digits count (n / 128)

-- the line of an event, without the line feed that ends it; a list of small numbers is packed into one number or two,
-- and reads, postings and changes of parts have no line
abbrev pub line_of : Event → List ℕ
line_of (UpdateLocation sub_nbr vlr_location) = codes "L" ++ digits 8 sub_nbr ++ digits 5 vlr_location
line_of (UpdateSubscriber s_id sf_type bit_1 data_a) =
    codes "U" ++ digits 4 s_id ++ digits 1 sf_type ++ digits 1 bit_1 ++ digits 2 data_a
line_of (InsertForwarding sub_nbr sf_type start_time end_time numberx) =
    codes "I" ++ digits 8 sub_nbr ++ digits 1 sf_type ++ digits 1 start_time ++ digits 1 end_time ++ digits 8 numberx
line_of (DeleteForwarding sub_nbr sf_type start_time) =
    codes "D" ++ digits 8 sub_nbr ++ digits 1 sf_type ++ digits 1 start_time
line_of (AddSubscriber row) =
    codes "S" ++ digits 4 row.s_id ++ digits 8 row.sub_nbr
    ++ digits 2 (packed 2 row.bits) ++ digits 6 (packed 16 row.hexes)
    ++ digits 6 (packed 256 (take 5 row.bytes)) ++ digits 6 (packed 256 (drop 5 row.bytes))
    ++ digits 5 row.msc_location ++ digits 5 row.vlr_location
line_of (AddAccess row) =
    codes "A" ++ digits 4 row.s_id ++ digits 1 row.ai_type ++ digits 2 row.data1 ++ digits 2 row.data2
    ++ digits 3 (packed 128 row.data3) ++ digits 5 (packed 128 row.data4)
line_of (AddFacility row) =
    codes "F" ++ digits 4 row.s_id ++ digits 1 row.sf_type ++ digits 1 row.is_active ++ digits 2 row.error_cntrl
    ++ digits 2 row.data_a ++ digits 5 (packed 128 row.data_b)
line_of (SetActive s_id sf_type is_active) = codes "O" ++ digits 4 s_id ++ digits 1 sf_type ++ digits 1 is_active
line_of (SetNumber s_id sub_nbr) = codes "N" ++ digits 4 s_id ++ digits 8 sub_nbr
line_of other = []

-- an event that changes rows, whose plain numbers are in range
abbrev pub is_change : Event → Bool
is_change (UpdateLocation sub_nbr vlr_location) = is_between 1 4294967295 vlr_location
is_change (UpdateSubscriber s_id sf_type bit_1 data_a) =
    is_typed s_id sf_type && (is_between 0 1 bit_1 && is_between 0 255 data_a)
is_change (InsertForwarding sub_nbr sf_type start_time end_time numberx) =
    has_forwarding_key sf_type start_time && is_between 1 24 end_time
is_change (DeleteForwarding sub_nbr sf_type start_time) = has_forwarding_key sf_type start_time
is_change (AddSubscriber row) = true
is_change (AddAccess row) = true
is_change (AddFacility row) = true
is_change (SetActive s_id sf_type is_active) = is_typed s_id sf_type && is_between 0 1 is_active
is_change (SetNumber s_id sub_nbr) = is_between 1 LAST_SUBSCRIBER s_id
is_change other = false

-- the rows and the subscribers' numbers in an event are in range, as those of each event in memory are
abbrev pub has_values : Event → Bool
has_values (UpdateLocation sub_nbr vlr_location) = is_number sub_nbr
has_values (InsertForwarding sub_nbr sf_type start_time end_time numberx) = is_number sub_nbr && is_number numberx
has_values (DeleteForwarding sub_nbr sf_type start_time) = is_number sub_nbr
has_values (AddSubscriber row) = subscriber_in_range row
has_values (AddAccess row) = access_in_range row
has_values (AddFacility row) = facility_in_range row
has_values (SetNumber s_id sub_nbr) = is_number sub_nbr
has_values other = true

-- an event that has a line of its own
abbrev pub has_line : Event → Bool
has_line event = is_change event && has_values event

-- the name of the format, which the first line of each journal begins with
abbrev pub format : List ℕ
format = codes "hlr journal "

-- the first line of a journal: the name of the format, and its version
abbrev pub first_line : List ℕ
first_line = format ++ codes "1"
