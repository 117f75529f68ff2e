-- How a line is read, and why a line is refused. The clauses of `read_line` say that reading is the way back from the
-- line of an event.
use Rattle.std.specs.Prelude.{ℕ, ◌+◌, ◌*◌, ◌%◌, ◌^◌, ◌==◌, ◌&&◌, nat_eq, nat_le, nat_lt, List, [], ◌∷◌, ◌++◌, length, take, drop, slice_index, sum, Result, Ok, Err, if◌then◌else◌}
use Rattle.std.specs.List.{list_all, starts_with}
use Rattle.std.specs.Str.{bytes_eq}
use Rattle.tatp_rows.specs.Packed.{unpacked}
use Rattle.edit_lines.specs.Lines.{has_line, format, first_line}
use Rattle.edit_lines.specs.declared.error.LineError.{LineError}
use Rattle.edit_lines.specs.declared.error.LineError.TheVariants as errors
use Rattle.hlr_core.specs.declared.event.Event.{Event}
use Rattle.hlr_core.specs.declared.event.Event.TheVariants.{UpdateSubscriber, UpdateLocation, InsertForwarding, DeleteForwarding, AddSubscriber, AddAccess, AddFacility, SetActive, SetNumber}

-- what is wrong with a list that is to have a count of digits, if anything
abbrev pub checked : ℕ → List ℕ → Result (Unit {0}) LineError
checked count digits =
    if length digits == count then (if list_all (nat_le 128) digits then Ok tt else Err errors.Digit)
    else Err errors.Length

-- the number that digits stand for
unfoldable pub number_of : List ℕ → ℕ
number_of [] = 0
number_of (digit ∷ digits) = digit % 128 + 128 * number_of digits

-- the numbers of the fields that have these counts of digits
abbrev pub numbers_of : List ℕ → List ℕ → List ℕ
numbers_of [] digits = []
numbers_of (count ∷ counts) digits = number_of (take count digits) ∷ numbers_of counts (drop count digits)

-- the event that the digits make, or what is wrong with them
abbrev pub if_digits : Result (Unit {0}) LineError → Result Event LineError → Result Event LineError
if_digits (Ok done) made = made
if_digits (Err why) made = Err why

-- an event, if its fields are in range
abbrev pub if_has_line : Event → Result Event LineError
if_has_line event = if has_line event then Ok event else Err errors.Field

-- the event UPDATE_LOCATION with these fields; the definitions that follow say the same of the other kinds
abbrev pub location_from : List ℕ → Result Event LineError
location_from ns = if_has_line (UpdateLocation (slice_index ns 0) (slice_index ns 1))

-- the same for UPDATE_SUBSCRIBER_DATA
abbrev pub update_from : List ℕ → Result Event LineError
update_from ns =
    if_has_line (UpdateSubscriber (slice_index ns 0) (slice_index ns 1) (slice_index ns 2) (slice_index ns 3))

-- the same for INSERT_CALL_FORWARDING
abbrev pub insert_from : List ℕ → Result Event LineError
insert_from ns =
    if_has_line (InsertForwarding (slice_index ns 0) (slice_index ns 1) (slice_index ns 2) (slice_index ns 3)
    (slice_index ns 4))

-- the same for DELETE_CALL_FORWARDING
abbrev pub delete_from : List ℕ → Result Event LineError
delete_from ns = if_has_line (DeleteForwarding (slice_index ns 0) (slice_index ns 1) (slice_index ns 2))

-- the same for a Subscriber row, whose packed numbers have no more digits than they need
abbrev pub subscriber_from : List ℕ → Result Event LineError
subscriber_from ns =
    if nat_lt (slice_index ns 2) (2 ^ 10)
    && (nat_lt (slice_index ns 3) (2 ^ 40)
    && (nat_lt (slice_index ns 4) (2 ^ 40) && nat_lt (slice_index ns 5) (2 ^ 40)))
    then if_has_line (AddSubscriber (record {
      s_id = slice_index ns 0;
      sub_nbr = slice_index ns 1;
      bits = unpacked 2 10 (slice_index ns 2);
      hexes = unpacked 16 10 (slice_index ns 3);
      bytes = unpacked 256 5 (slice_index ns 4) ++ unpacked 256 5 (slice_index ns 5);
      msc_location = slice_index ns 6;
      vlr_location = slice_index ns 7;
    }))
    else Err errors.Field

-- the same for an Access_Info row
abbrev pub access_from : List ℕ → Result Event LineError
access_from ns = if_has_line (AddAccess (record {
  s_id = slice_index ns 0;
  ai_type = slice_index ns 1;
  data1 = slice_index ns 2;
  data2 = slice_index ns 3;
  data3 = unpacked 128 3 (slice_index ns 4);
  data4 = unpacked 128 5 (slice_index ns 5);
}))

-- the same for a Special_Facility row
abbrev pub facility_from : List ℕ → Result Event LineError
facility_from ns = if_has_line (AddFacility (record {
  s_id = slice_index ns 0;
  sf_type = slice_index ns 1;
  is_active = slice_index ns 2;
  error_cntrl = slice_index ns 3;
  data_a = slice_index ns 4;
  data_b = unpacked 128 5 (slice_index ns 5);
}))

-- the same for a facility that is switched on or off
abbrev pub active_from : List ℕ → Result Event LineError
active_from ns = if_has_line (SetActive (slice_index ns 0) (slice_index ns 1) (slice_index ns 2))

-- the same for another number of a subscriber
abbrev pub number_from : List ℕ → Result Event LineError
number_from ns = if_has_line (SetNumber (slice_index ns 0) (slice_index ns 1))

-- the event whose fields these bytes are, each in its count of digits
abbrev pub fields_in : List ℕ → (List ℕ → Result Event LineError) → List ℕ → Result Event LineError
fields_in counts make bytes = if_digits (checked (sum counts) bytes) (make (numbers_of counts bytes))

-- the event whose fields stand behind a letter
abbrev pub event_behind : ℕ → List ℕ → Result Event LineError
event_behind letter bytes =
    if letter == 76 then fields_in (8 ∷ 5 ∷ []) location_from bytes
    else if letter == 85 then fields_in (4 ∷ 1 ∷ 1 ∷ 2 ∷ []) update_from bytes
    else if letter == 73 then fields_in (8 ∷ 1 ∷ 1 ∷ 1 ∷ 8 ∷ []) insert_from bytes
    else if letter == 68 then fields_in (8 ∷ 1 ∷ 1 ∷ []) delete_from bytes
    else if letter == 83 then fields_in (4 ∷ 8 ∷ 2 ∷ 6 ∷ 6 ∷ 6 ∷ 5 ∷ 5 ∷ []) subscriber_from bytes
    else if letter == 65 then fields_in (4 ∷ 1 ∷ 2 ∷ 2 ∷ 3 ∷ 5 ∷ []) access_from bytes
    else if letter == 70 then fields_in (4 ∷ 1 ∷ 1 ∷ 2 ∷ 2 ∷ 5 ∷ []) facility_from bytes
    else if letter == 79 then fields_in (4 ∷ 1 ∷ 1 ∷ []) active_from bytes
    else if letter == 78 then fields_in (4 ∷ 8 ∷ []) number_from bytes
    else Err errors.Kind

-- the event of a line
abbrev pub event_of : List ℕ → Result Event LineError
event_of [] = Err errors.Kind
event_of (letter ∷ bytes) = event_behind letter bytes

-- what is wrong with the first line of a journal, if anything
abbrev pub first_checked : List ℕ → Result (Unit {0}) LineError
first_checked line =
    if starts_with nat_eq line format then (if bytes_eq line first_line then Ok tt else Err errors.Version)
    else Err errors.Format
