-- The stored rows: each of TATP's four tables as a list of pairs (key, row), and how often they were asked.
use Rattle.std.specs.Prelude.{◌≡◌, ℕ, ◌+◌, ◌-◌, ◌^◌, min, List, [], map}
use Rattle.std.specs.List.{AllByRecursion}
use Rattle.tatp_rows.specs.Keys.{subscriber_key, access_key, facility_key, forwarding_key}
use Rattle.tatp_rows.specs.Rows.{SubscriberRow, AccessInfoRow, SpecialFacilityRow, CallForwardingRow}
use Rattle.tatp_actions.specs.Book.{Book}

-- the pairs of the four tables
pub record Tables : Type 0 where
  pub subscribers : List (ℕ × SubscriberRow)
  pub access : List (ℕ × AccessInfoRow)
  pub facilities : List (ℕ × SpecialFacilityRow)
  pub forwardings : List (ℕ × CallForwardingRow)

-- the tables with no row
abbrev pub empty_tables : Tables
empty_tables = record { subscribers = []; access = []; facilities = []; forwardings = [] }

-- each key of the pairs is the key of its row
abbrev pub IsKeyed : {X : Type 0} → (X → ℕ) → List (ℕ × X) → Type 0
IsKeyed key pairs = AllByRecursion (λ pair. pair.0 ≡ key pair.1) pairs

-- each row of the tables stands at its key
pub record AreKeyed (tables : Tables) : Type 0 where
  pub subscribers : IsKeyed subscriber_key tables.subscribers
  pub access : IsKeyed access_key tables.access
  pub facilities : IsKeyed facility_key tables.facilities
  pub forwardings : IsKeyed forwarding_key tables.forwardings

-- the rows of pairs, in their order
abbrev pub values_of : {X : Type 0} → List (ℕ × X) → List X
values_of pairs = map (λ pair. pair.1) pairs

-- the book of the stored rows
abbrev pub stored_book : Tables → Book
stored_book tables = record {
  subscribers = values_of tables.subscribers;
  access = values_of tables.access;
  facilities = values_of tables.facilities;
  forwardings = values_of tables.forwardings;
}

-- asked once more; the count stays at its largest
abbrev pub once_more : ℕ → ℕ
once_more asked = min (asked + 1) (2 ^ 64 - 1)
