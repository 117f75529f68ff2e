-- The groups of the three tables, as they lie in a tree.
use Rattle.std.specs.Prelude.{ℕ, ◌+◌, ◌*◌, ◌/◌, ◌%◌, List, map, IsTrue}
use Rattle.tatp_rows.specs.Rows.{AccessInfoRow, SpecialFacilityRow, CallForwardingRow, is_between}
use Rattle.tatp_rows.specs.declared.ranges.TheConstants.{LAST_SUBSCRIBER}
use Rattle.row_groups.specs.Groups.{AreForwardings, AreTyped, access_type, access_with, facility_type, facility_with, forwarding_start, forwarding_with}
use Rattle.group_tree.specs.Groups.{IsBase}

-- the rows of a group with their keys: `number` is a row's type or start time, `key_at` the key of a number, and
-- `with` gives a row the fields that a group doesn't keep
abbrev pub listed_by : {R : Type 0} → (ℕ → ℕ) → (R → ℕ) → (R → R) → List R → List (ℕ × R)
listed_by key_at number with rows = map (λ row. (key_at (number row), with row)) rows

-- the subscriber of a key
abbrev pub s_id_in : ℕ → ℕ
s_id_in key = key / 65536

-- the type of a key
abbrev pub type_in : ℕ → ℕ
type_in key = key / 256 % 256

-- the start time of a key; no public clause cites it
abbrev pub start_time_in : ℕ → ℕ
start_time_in key = key % 256

-- how far apart groups of accesses or facilities lie: those of each subscriber
abbrev pub subscriber_span : ℕ
subscriber_span = 65536

-- how far apart groups of forwardings lie: those of each facility
abbrev pub facility_span : ℕ
facility_span = 256

-- the key of a type in a subscriber's group
abbrev pub typed_key_at : ℕ → ℕ → ℕ
typed_key_at base kind = base + 256 * kind

-- the key in a place of that group: types begin with 1
abbrev pub typed_key_in : ℕ → ℕ → ℕ
typed_key_in base place = typed_key_at base (place + 1)

-- the key in a place of a facility's group: start times are eight hours apart
abbrev pub started_key_in : ℕ → ℕ → ℕ
started_key_in base place = base + 8 * place

-- the rows of a group that lies at the key of a subscriber, where `type_of` is a row's type, and `with` makes it a row
-- of a subscriber
abbrev pub typed_listed : {R : Type 0} → (R → ℕ) → (ℕ → R → R) → ℕ → List R → List (ℕ × R)
typed_listed type_of with base rows = listed_by (typed_key_at base) type_of (with (s_id_in base)) rows

-- a group of rows with types that lies at the key of its subscriber, and keeps its rules
pub record HoldsTyped {R : Type 0} (subscriber type_of : R → ℕ) (base : ℕ) (rows : List R) : Type 0 where
  pub at : IsBase subscriber_span base
  pub s_id : IsTrue (is_between 1 LAST_SUBSCRIBER (s_id_in base))
  pub rules : AreTyped subscriber type_of rows

-- a subscriber's accesses
abbrev pub accesses_listed : ℕ → List AccessInfoRow → List (ℕ × AccessInfoRow)
accesses_listed base rows = typed_listed access_type access_with base rows

-- a group of accesses that lies at the key of its subscriber, and keeps its rules
abbrev pub HoldsAccesses : ℕ → List AccessInfoRow → Type 0
HoldsAccesses base rows = HoldsTyped (λ row. row.s_id) access_type base rows

-- a subscriber's facilities
abbrev pub facilities_listed : ℕ → List SpecialFacilityRow → List (ℕ × SpecialFacilityRow)
facilities_listed base rows = typed_listed facility_type facility_with base rows

-- a group of facilities that lies at the key of its subscriber, and keeps its rules
abbrev pub HoldsFacilities : ℕ → List SpecialFacilityRow → Type 0
HoldsFacilities base rows = HoldsTyped (λ row. row.s_id) facility_type base rows

-- a facility's forwardings
abbrev pub forwardings_listed : ℕ → List CallForwardingRow → List (ℕ × CallForwardingRow)
forwardings_listed base rows = listed_by (λ hour. base + hour) forwarding_start (forwarding_with (s_id_in base) (type_in base)) rows

-- a group of forwardings that lies at the key of its facility, and keeps its rules
pub record HoldsForwardings (base : ℕ) (rows : List CallForwardingRow) : Type 0 where
  pub at : IsBase facility_span base
  pub s_id : IsTrue (is_between 1 LAST_SUBSCRIBER (s_id_in base))
  pub sf_type : IsTrue (is_between 1 4 (type_in base))
  pub rules : AreForwardings rows
