-- Groups of rows: the rows of one subscriber, or of one facility, in the order of their keys. A group doesn't keep to
-- whom it belongs, so the fields that all of its rows share are 0 in it.
use Rattle.std.specs.Prelude.{◌≡◌, ℕ, ◌≤◌, ◌&&◌, nat_le, nat_lt, Bool, List, Result, Ok, Err, None, IsSome, IsTrue}
use Rattle.std.specs.List.{AllByRecursion}
use Rattle.tatp_rows.specs.Ordered.{IsOrderedBy, row_at, with_row}
use Rattle.tatp_rows.specs.Rows.{AccessInfoRow, SpecialFacilityRow, CallForwardingRow, is_start_time}
use Rattle.tatp_rows.specs.declared.refusal.Refusal.{Refusal}
use Rattle.tatp_rows.specs.declared.refusal.Refusal.TheVariants.{Exists}

-- a row whose type is 1 to 4, without its subscriber
abbrev pub IsTypedRow : {R : Type 0} → (R → ℕ) → (R → ℕ) → R → Type 0
IsTypedRow s_id type_of row = (s_id row ≡ 0) × (1 ≤ type_of row) × (type_of row ≤ 4)

-- such rows of one subscriber: in the order of their types, at most one of each
pub record AreTyped {R : Type 0} (s_id type_of : R → ℕ) (rows : List R) : Type 0 where
  pub ordered : IsOrderedBy type_of rows
  pub each : AllByRecursion (IsTypedRow s_id type_of) rows

-- the key of an Access_Info row among those of its subscriber
abbrev pub access_type : AccessInfoRow → ℕ
access_type row = row.ai_type

-- the row as one of a subscriber; 0 stands for none
abbrev pub access_with : ℕ → AccessInfoRow → AccessInfoRow
access_with s_id row = record row { s_id = s_id }

-- the rows of a group of accesses
abbrev pub AreAccesses : List AccessInfoRow → Type 0
AreAccesses rows = AreTyped (λ row. row.s_id) access_type rows

-- the key of a Special_Facility row among those of its subscriber
abbrev pub facility_type : SpecialFacilityRow → ℕ
facility_type row = row.sf_type

-- the row as one of a subscriber; 0 stands for none
abbrev pub facility_with : ℕ → SpecialFacilityRow → SpecialFacilityRow
facility_with s_id row = record row { s_id = s_id }

-- the rows of a group of facilities
abbrev pub AreFacilities : List SpecialFacilityRow → Type 0
AreFacilities rows = AreTyped (λ row. row.s_id) facility_type rows

-- the key of a Call_Forwarding row among those of its facility
abbrev pub forwarding_start : CallForwardingRow → ℕ
forwarding_start row = row.start_time

-- the row as one of a facility; zeros stand for none
abbrev pub forwarding_with : ℕ → ℕ → CallForwardingRow → CallForwardingRow
forwarding_with s_id sf_type row = record row { s_id = s_id; sf_type = sf_type }

-- the rows of a group: at most one for each start time, with no facility
pub record AreForwardings (rows : List CallForwardingRow) : Type 0 where
  pub ordered : IsOrderedBy forwarding_start rows
  pub each : AllByRecursion (λ row. (row.s_id ≡ 0) × (row.sf_type ≡ 0) × IsTrue (is_start_time row.start_time)) rows

-- a forwarding starts by one hour, and ends after another
abbrev pub is_in_time : ℕ → ℕ → CallForwardingRow → Bool
is_in_time start_time end_time row = nat_le row.start_time start_time && nat_lt end_time row.end_time

-- a row is put among others, or is refused because there is one with its key
abbrev pub IsPut : {X : Type 0} → (X → ℕ) → X → List X → List X → Result (Unit {0}) Refusal → Type 0
IsPut key row before after (Ok u) = (row_at key (key row) before ≡ None) × (after ≡ with_row key row before)
IsPut key row before after (Err why) = (why ≡ Exists) × IsSome (row_at key (key row) before) × (after ≡ before)
