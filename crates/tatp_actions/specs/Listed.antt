-- The rows of a table from a key on, in key order, and how they are written into a list.
use Rattle.std.specs.Prelude.{◌≡◌, ℕ, zero, suc, ◌+◌, ◌<◌, ◌≤◌, ◌==◌, ◌&&◌, ◌||◌, nat_lt, nat_le, min, Bool, List, [], ◌∷◌, ◌++◌, length, take, drop}
use Rattle.std.specs.List.{AllByRecursion, filter}
use Rattle.mr_node.specs.Rows.{key_of_pair}
use Rattle.tatp_rows.specs.Keys.{key_of}
use Rattle.tatp_rows.specs.Ordered.{IsOrderedBy}
use Rattle.tatp_rows.specs.Rows.{SubscriberRow, AccessInfoRow, SpecialFacilityRow, CallForwardingRow}
use Rattle.tatp_rows.specs.declared.ranges.TheConstants.{LAST_SUBSCRIBER}
use Rattle.tatp_actions.specs.Book.{Book}
use Rattle.tatp_actions.specs.declared.listed.KeyFields.{KeyFields}

-- a key isn't below another one: they are compared field by field, by the s_id, then the type, then the start time
abbrev pub is_from : KeyFields → KeyFields → Bool
is_from from key =
    nat_lt from.s_id key.s_id
    || (from.s_id == key.s_id && (nat_lt from.kind key.kind || (from.kind == key.kind && nat_le from.start_time key.start_time)))

-- the rows whose key isn't below one, where a function tells a row's key
abbrev pub rows_listed : {X : Type 0} → (X → KeyFields) → KeyFields → List X → List X
rows_listed fields from rows = filter (λ row. is_from from (fields row)) rows

-- the fields of a Subscriber row's key
abbrev pub subscriber_fields : SubscriberRow → KeyFields
subscriber_fields row = record { s_id = row.s_id; kind = 0; start_time = 0 }

-- those of an Access_Info row
abbrev pub access_fields : AccessInfoRow → KeyFields
access_fields row = record { s_id = row.s_id; kind = row.ai_type; start_time = 0 }

-- those of a Special_Facility row
abbrev pub facility_fields : SpecialFacilityRow → KeyFields
facility_fields row = record { s_id = row.s_id; kind = row.sf_type; start_time = 0 }

-- those of a Call_Forwarding row
abbrev pub forwarding_fields : CallForwardingRow → KeyFields
forwarding_fields row = record { s_id = row.s_id; kind = row.sf_type; start_time = row.start_time }

-- the Subscriber rows from a subscriber on
abbrev pub subscribers_from : ℕ → Book → List SubscriberRow
subscribers_from s_id book = rows_listed subscriber_fields (record { s_id = s_id; kind = 0; start_time = 0 }) book.subscribers

-- the Access_Info rows from an access on
abbrev pub access_from : ℕ → ℕ → Book → List AccessInfoRow
access_from s_id ai_type book = rows_listed access_fields (record { s_id = s_id; kind = ai_type; start_time = 0 }) book.access

-- the Special_Facility rows from a facility on
abbrev pub facilities_from : ℕ → ℕ → Book → List SpecialFacilityRow
facilities_from s_id sf_type book = rows_listed facility_fields (record { s_id = s_id; kind = sf_type; start_time = 0 }) book.facilities

-- the Call_Forwarding rows from a forwarding on
abbrev pub forwardings_from : ℕ → ℕ → ℕ → Book → List CallForwardingRow
forwardings_from s_id sf_type start_time book =
    rows_listed forwarding_fields (record { s_id = s_id; kind = sf_type; start_time = start_time }) book.forwardings

-- a list was filled with the first of some values: as many as there are, and as it has places; behind them it stays as
-- it was
pub record AreFilled {X : Type 0} (values before : List X) (many : ℕ) (after : List X) : Type 0 where
  pub count : many ≡ min (length values) (length before)
  pub rows : after ≡ take (length before) values ++ drop (length values) before

-- values over the front of a list, as many as it has room for
abbrev pub written_over : {X : Type 0} → List X → List X → List X
written_over values [] = []
written_over [] (old ∷ before) = old ∷ before
written_over (value ∷ values) (old ∷ before) = value ∷ written_over values before

-- the same from a place on
abbrev pub written_at : {X : Type 0} → ℕ → List X → List X → List X
written_at zero values before = written_over values before
written_at (suc place) values [] = []
written_at (suc place) values (old ∷ before) = old ∷ written_at place values before

-- values were written into a list from a place on, as many as it has room for, up to another place
pub record AreWritten {X : Type 0} (values : List X) (place : ℕ) (before : List X) (behind : ℕ) (after : List X) : Type 0 where
  pub end : behind ≡ min (place + length values) (length before)
  pub rows : after ≡ written_at place values before

-- a row's key as one number, and its fields, which are small
pub record IsListed (fields : KeyFields) (key : ℕ) : Type 0 where
  pub key_is : key ≡ key_of fields.s_id fields.kind fields.start_time
  pub s_id_small : fields.s_id ≤ LAST_SUBSCRIBER
  pub kind_small : fields.kind < 255
  pub start_time_small : fields.start_time < 255

-- pairs of a key and a row, in the order of their keys
pub record AreListed {X : Type 0} (fields : X → KeyFields) (pairs : List (ℕ × X)) : Type 0 where
  pub ordered : IsOrderedBy key_of_pair pairs
  pub each : AllByRecursion (λ pair. IsListed (fields pair.1) pair.0) pairs

-- the least key, as one number, that no key of a row in range is below and that isn't below the given one
abbrev pub packed_from : KeyFields → ℕ
packed_from from = key_of (min from.s_id (LAST_SUBSCRIBER + 1)) (min from.kind 255) (min from.start_time 255)
