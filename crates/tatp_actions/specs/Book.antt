-- The book: one whole ordered list of rows for each of TATP's four tables, and the rules that it keeps.
use Rattle.std.specs.Prelude.{◌≡◌, ℕ, ◌<◌, ◌≤◌, ◌==◌, ◌&&◌, nat_le, nat_lt, Bool, true, false, List, [], ◌∷◌, Option, Some, None, IsSome, if◌then◌else◌}
use Rattle.std.specs.List.{AllByRecursion, filter}
use Rattle.std.specs.Option.{option_map_or}
use Rattle.tatp_rows.specs.Ordered.{IsOrderedBy, row_at, with_row_at, with_row, without_row}
use Rattle.tatp_rows.specs.Keys.{key_of, subscriber_key, access_key, facility_key, forwarding_key}
use Rattle.tatp_rows.specs.Rows.{SubscriberRow, AccessInfoRow, SpecialFacilityRow, CallForwardingRow, subscriber_in_range, access_in_range, facility_in_range, forwarding_in_range}

-- the rows of the four tables
pub record Book : Type 0 where
  pub subscribers : List SubscriberRow
  pub access : List AccessInfoRow
  pub facilities : List SpecialFacilityRow
  pub forwardings : List CallForwardingRow

-- the book with no row
abbrev pub empty_book : Book
empty_book = record { subscribers = []; access = []; facilities = []; forwardings = [] }

-- the Subscriber row of a subscriber
abbrev pub subscriber_at : Book → ℕ → Option SubscriberRow
subscriber_at book s_id = row_at subscriber_key (key_of s_id 0 0) book.subscribers

-- the Access_Info row of a subscriber's access
abbrev pub access_at : Book → ℕ → ℕ → Option AccessInfoRow
access_at book s_id ai_type = row_at access_key (key_of s_id ai_type 0) book.access

-- the Special_Facility row of a subscriber's facility
abbrev pub facility_at : Book → ℕ → ℕ → Option SpecialFacilityRow
facility_at book s_id sf_type = row_at facility_key (key_of s_id sf_type 0) book.facilities

-- the facility that was found is active
abbrev pub has_active : Option SpecialFacilityRow → Bool
has_active facility = option_map_or (λ row. row.is_active == 1) facility false

-- the Call_Forwarding row of a facility that starts at an hour
abbrev pub forwarding_at : Book → ℕ → ℕ → ℕ → Option CallForwardingRow
forwarding_at book s_id sf_type start_time = row_at forwarding_key (key_of s_id sf_type start_time) book.forwardings

-- the book with a row in the place of the subscriber with its key
abbrev pub put_subscriber : Book → ℕ → SubscriberRow → Book
put_subscriber book s_id row = record book { subscribers = with_row_at subscriber_key (key_of s_id 0 0) row book.subscribers }

-- the book with a row in the place of the facility with its key
abbrev pub put_facility : Book → ℕ → ℕ → SpecialFacilityRow → Book
put_facility book s_id sf_type row = record book { facilities = with_row_at facility_key (key_of s_id sf_type 0) row book.facilities }

-- the book with one more subscriber
abbrev pub more_subscribers : Book → SubscriberRow → Book
more_subscribers book row = record book { subscribers = with_row subscriber_key row book.subscribers }

-- the book with one more access
abbrev pub more_access : Book → AccessInfoRow → Book
more_access book row = record book { access = with_row access_key row book.access }

-- the book with one more facility
abbrev pub more_facilities : Book → SpecialFacilityRow → Book
more_facilities book row = record book { facilities = with_row facility_key row book.facilities }

-- the book with one more forwarding
abbrev pub more_forwardings : Book → CallForwardingRow → Book
more_forwardings book row = record book { forwardings = with_row forwarding_key row book.forwardings }

-- the book without a forwarding
abbrev pub without_forwarding : Book → ℕ → ℕ → ℕ → Book
without_forwarding book s_id sf_type start_time =
    record book { forwardings = without_row forwarding_key (key_of s_id sf_type start_time) book.forwardings }

-- the rules of a book, but for the rule that no number comes twice, which only the register can keep
pub record IsBook (book : Book) : Type 0 where
  pub subscribers_ordered : IsOrderedBy subscriber_key book.subscribers
  pub access_ordered : IsOrderedBy access_key book.access
  pub facilities_ordered : IsOrderedBy facility_key book.facilities
  pub forwardings_ordered : IsOrderedBy forwarding_key book.forwardings
  pub subscribers_in_range : AllByRecursion (λ row. subscriber_in_range row ≡ true) book.subscribers
  pub access_in_range : AllByRecursion (λ row. access_in_range row ≡ true) book.access
  pub facilities_in_range : AllByRecursion (λ row. facility_in_range row ≡ true) book.facilities
  pub forwardings_in_range : AllByRecursion (λ row. forwarding_in_range row ≡ true) book.forwardings
  pub access_have_subscriber : AllByRecursion (λ row. IsSome (subscriber_at book row.s_id)) book.access
  pub facilities_have_subscriber : AllByRecursion (λ row. IsSome (subscriber_at book row.s_id)) book.facilities
  pub forwardings_have_facility : AllByRecursion (λ row. IsSome (facility_at book row.s_id row.sf_type)) book.forwardings

-- the s_id lies in low..high, high excluded
abbrev pub IsWithin : ℕ → ℕ → ℕ → Type 0
IsWithin low high s_id = (low ≤ s_id) × (s_id < high)

-- a book whose rows all belong to the subscribers of low..high
pub record IsRowsOf (low high : ℕ) (book : Book) : Type 0 where
  pub rules : IsBook book
  pub subscribers : AllByRecursion (λ row. IsWithin low high row.s_id) book.subscribers
  pub access : AllByRecursion (λ row. IsWithin low high row.s_id) book.access
  pub facilities : AllByRecursion (λ row. IsWithin low high row.s_id) book.facilities
  pub forwardings : AllByRecursion (λ row. IsWithin low high row.s_id) book.forwardings

-- the s_id lies in low..high, as a test
abbrev pub is_within : ℕ → ℕ → ℕ → Bool
is_within low high s_id = nat_le low s_id && nat_lt s_id high

-- the rows of the subscribers of low..high
abbrev pub rows_between : ℕ → ℕ → Book → Book
rows_between low high book = record {
  subscribers = filter (λ row. is_within low high row.s_id) book.subscribers;
  access = filter (λ row. is_within low high row.s_id) book.access;
  facilities = filter (λ row. is_within low high row.s_id) book.facilities;
  forwardings = filter (λ row. is_within low high row.s_id) book.forwardings;
}

-- the first Subscriber row from a subscriber on
abbrev pub first_subscriber : ℕ → List SubscriberRow → Option SubscriberRow
first_subscriber s_id [] = None
first_subscriber s_id (row ∷ rows) = if nat_le s_id row.s_id then Some row else first_subscriber s_id rows
