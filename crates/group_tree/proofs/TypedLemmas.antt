-- Groups of a subscriber's rows that have types, Access_Info and Special_Facility rows, at their keys.
use Rattle.group_tree.proofs.Common.{◌≡◌, ◌≢◌, ◌∙◌, refl, sym, ap, ℕ, ◌+◌, List, Option, None, Some, option_map, arith, row_at, with_row_at, without_row, without_row_absent, key_of_pair, value_at, base_of, IsPut, IsPutAt, IsReplacedAt, Result, Refusal, is_ok, AccessInfoRow, SpecialFacilityRow, key_of, IsTypedRow, access_type, access_with, facility_type, facility_with, HoldsTyped, s_id_in, start_time_in, subscriber_span, type_in, typed_key_at, typed_key_in, typed_listed}
use Rattle.group_tree.specs.Rules.{types_rise}
use Rattle.group_tree.proofs.NumberedLemmas.{found_listed, missing_listed}
use Rattle.group_tree.proofs.TableLemmas.{AreKept, IsAtHome, Table, found_at, kept_put, kept_replaced, kept_without, left_at, missing_at, put_at, replaced_at}
use Rattle.tatp_rows.proofs.RowLemmas.{IsKind}

-- the group of a key has its subscriber, and a key without a start time is that of its type in its group
pub s_id_of_base : (key : ℕ) → s_id_in (base_of subscriber_span key) ≡ s_id_in key
s_id_of_base key = omega arith

typed_key : (key : ℕ) → start_time_in key ≡ 0 → typed_key_at (base_of subscriber_span key) (type_in key) ≡ key
typed_key key typed = omega arith

-- a key with a start time is that of no type
no_type : (key : ℕ) → start_time_in key ≢ 0 → (n : ℕ) → typed_key_at (base_of subscriber_span key) n ≢ key
no_type key other n same = other (omega arith)

-- rows that have a subscriber and a type, and can be given another subscriber
pub record Typed (R : Type 0) : Type 0 where
  pub s_id : R → ℕ
  pub type_of : R → ℕ
  pub with : ℕ → R → R
  pub type_stays : (row : R) → type_of (with 0 row) ≡ type_of row
  pub gone : (row : R) → s_id (with 0 row) ≡ 0
  pub back : (row : R) → with (s_id row) (with 0 row) ≡ row

-- the accesses, and the facilities
abbrev pub accesses : Typed AccessInfoRow
accesses = record {
  s_id = λ row. row.s_id;
  type_of = access_type;
  with = access_with;
  type_stays = λ row. refl;
  gone = λ row. refl;
  back = λ row. refl;
}

abbrev pub facilities : Typed SpecialFacilityRow
facilities = record {
  s_id = λ row. row.s_id;
  type_of = facility_type;
  with = facility_with;
  type_stays = λ row. refl;
  gone = λ row. refl;
  back = λ row. refl;
}

module _ {R : Type 0} (typed : Typed R) where
  -- the key of a row
  abbrev row_key : R → ℕ
  row_key row = key_of (typed.s_id row) (typed.type_of row) 0

  -- the rows by subscribers
  abbrev table : Table R
  table = record {
    span = subscriber_span;
    number = typed.type_of;
    key = row_key;
    key_at = typed_key_at;
    with = λ base row. typed.with (s_id_in base) row;
    bare = λ row. typed.with 0 row;
  }

  -- the rows of a group that lies at a key, and such groups
  abbrev listed : ℕ → List R → List (ℕ × R)
  listed base rows = typed_listed typed.type_of typed.with base rows

  abbrev Holds : ℕ → List R → Type 0
  Holds base rows = HoldsTyped typed.s_id typed.type_of base rows

  -- what is found at a key, and what is left
  pub typed_found : (key : ℕ) (rows : List R) → start_time_in key ≡ 0 → option_map (typed.with (s_id_in key)) (row_at typed.type_of (type_in key) rows) ≡ value_at key (listed (base_of subscriber_span key) rows)
  typed_found key rows none =
      ap (λ (s_id : ℕ). option_map (typed.with s_id) (row_at typed.type_of (type_in key) rows)) (sym (s_id_of_base key))
      ∙ found_at table types_rise (base_of subscriber_span key) key (type_in key) rows (typed_key key none)

  pub typed_missing : (key : ℕ) (rows : List R) → start_time_in key ≢ 0 → row_at key_of_pair key (listed (base_of subscriber_span key) rows) ≡ None
  typed_missing key rows other = missing_at table types_rise (base_of subscriber_span key) key rows (no_type key other)

  pub typed_left : (key : ℕ) (rows : List R) → start_time_in key ≡ 0 → listed (base_of subscriber_span key) (without_row typed.type_of (type_in key) rows) ≡ without_row key_of_pair key (listed (base_of subscriber_span key) rows)
  typed_left key rows none = left_at table types_rise (base_of subscriber_span key) key (type_in key) rows (typed_key key none)

  pub typed_left_there : (key : ℕ) (rows : List R) → start_time_in key ≢ 0 → listed (base_of subscriber_span key) rows ≡ without_row key_of_pair key (listed (base_of subscriber_span key) rows)
  typed_left_there key rows other = sym (without_row_absent key_of_pair key (listed (base_of subscriber_span key) rows) (typed_missing key rows other))

  -- the row in a place, or none
  pub found_in : (base place s_id kind : ℕ) (row : R) (rows : List R) → kind ≡ place + 1 → s_id ≡ s_id_in base → Some row ≡ option_map (typed.with s_id) (row_at typed.type_of (place + 1) rows)
      → ◌≡◌ {A = Option (ℕ × R)} (Some (typed_key_at base kind, row)) (row_at key_of_pair (typed_key_in base place) (listed base rows))
  found_in base place s_id kind row rows at own is =
      ap (λ (n : ℕ). Some (typed_key_at base n, row)) at
      ∙ found_listed (typed_key_at base) (types_rise base) typed.type_of (typed.with (s_id_in base)) (place + 1) row rows
      (is ∙ ap (λ (n : ℕ). option_map (typed.with n) (row_at typed.type_of (place + 1) rows)) own)

  pub missing_in : {S : Type 0} (base place : ℕ) (made : R → S) (rows : List R) → None ≡ option_map made (row_at typed.type_of (place + 1) rows) → ◌≡◌ {A = Option (ℕ × R)} None (row_at key_of_pair (typed_key_in base place) (listed base rows))
  missing_in base place made rows is = missing_listed (typed_key_at base) (types_rise base) typed.type_of (typed.with (s_id_in base)) made (place + 1) rows is

  -- a group with other rows that keep its rules
  holds_as : (at : ℕ) (before after : List R) → Holds at before → AreKept typed.type_of (IsTypedRow typed.s_id typed.type_of) after → Holds at after
  holds_as at before after holds kept = record {
    at = holds.at;
    s_id = holds.s_id;
    rules = record { ordered = kept.0; each = kept.1 };
  }

  pub holds_without : (at kind : ℕ) (rows : List R) → Holds at rows → Holds at (without_row typed.type_of kind rows)
  holds_without at kind rows holds = holds_as at rows (without_row typed.type_of kind rows) holds (kept_without typed.type_of (IsTypedRow typed.s_id typed.type_of) kind rows (holds.rules.ordered, holds.rules.each))

  -- a row that is added to a group, or replaces the one of its type
  module _ (row : R) (kind : IsKind (typed.type_of row)) where
    its_s_id : s_id_in (base_of subscriber_span (row_key row)) ≡ typed.s_id row
    its_s_id = let small = kind.below in omega arith

    at_home : IsAtHome table row
    at_home = record {
      at = let small = kind.below in omega arith;
      number_is = typed.type_stays row;
      back = ap (λ (s_id : ℕ). typed.with s_id (typed.with 0 row)) its_s_id ∙ typed.back row;
    }

    in_group : IsTypedRow typed.s_id typed.type_of (typed.with 0 row)
    in_group = let same = typed.type_stays row in let from = kind.from in let below = kind.below in (typed.gone row, omega arith, omega arith)

    pub typed_put : (before after : List R) (answer : Result (Unit {0}) Refusal) → IsPut typed.type_of (typed.with 0 row) before after answer
        → IsPutAt (row_key row) row (listed (base_of subscriber_span (row_key row)) before) (listed (base_of subscriber_span (row_key row)) after) (is_ok answer)
    typed_put before after answer h = put_at table types_rise row at_home before after answer h

    pub holds_put : (at : ℕ) (before after : List R) (answer : Result (Unit {0}) Refusal) → Holds at before → IsPut typed.type_of (typed.with 0 row) before after answer → Holds at after
    holds_put at before after answer holds h = holds_as at before after holds (kept_put typed.type_of (IsTypedRow typed.s_id typed.type_of) (typed.with 0 row) before after answer in_group (holds.rules.ordered, holds.rules.each) h)

    pub typed_replaced : (before after : List R) (old : Option R) → old ≡ option_map (typed.with (typed.s_id row)) (row_at typed.type_of (typed.type_of row) before) → after ≡ with_row_at typed.type_of (typed.type_of row) (typed.with 0 row) before
        → IsReplacedAt (row_key row) row (listed (base_of subscriber_span (row_key row)) before) (listed (base_of subscriber_span (row_key row)) after) old
    typed_replaced before after old value rows =
        replaced_at table types_rise row at_home before after old (value ∙ ap (λ (s_id : ℕ). option_map (typed.with s_id) (row_at typed.type_of (typed.type_of row) before)) (sym its_s_id)) rows

    pub holds_replaced : (at : ℕ) (before after : List R) → Holds at before → after ≡ with_row_at typed.type_of (typed.type_of row) (typed.with 0 row) before → Holds at after
    holds_replaced at before after holds h = holds_as at before after holds (kept_replaced typed.type_of (IsTypedRow typed.s_id typed.type_of) (typed.with 0 row) (typed.type_of row) before after (typed.type_stays row) in_group (holds.rules.ordered, holds.rules.each) h)
