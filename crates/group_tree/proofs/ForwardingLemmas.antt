-- Groups of Call_Forwarding rows at their keys.
use Rattle.group_tree.proofs.Common.{◌≡◌, ◌∙◌, refl, sym, ap, true, ◌⊎◌, inl, inr, IsTrue, is_start_time, type_in, ℕ, ◌+◌, ◌<◌, List, Option, option_map, arith, row_at, with_row_at, without_row, key_of_pair, value_at, base_of, IsPut, IsPutAt, IsReplacedAt, Result, Refusal, is_ok, CallForwardingRow, forwarding_key, forwarding_in_range, forwarding_start, forwarding_with, HoldsForwardings, forwardings_listed, s_id_in, start_time_in, facility_span}
use Rattle.group_tree.proofs.TableLemmas.{AreKept, IsAtHome, Table, found_at, kept_put, kept_replaced, kept_without, left_at, put_at, replaced_at}
use Rattle.tatp_rows.proofs.RowLemmas as ranges

-- keys rise with start times
pub rising : (base low high : ℕ) → low < high → base + low < base + high
rising base low high less = omega arith

-- the subscriber and the type of a key, and the key as that of its group and its start time
s_id_of_base : (key : ℕ) → s_id_in (base_of facility_span key) ≡ s_id_in key
s_id_of_base key = omega arith

type_of_base : (key : ℕ) → type_in (base_of facility_span key) ≡ type_in key
type_of_base key = omega arith

started_key : (key : ℕ) → base_of facility_span key + start_time_in key ≡ key
started_key key = omega arith

-- the forwardings by facilities
abbrev pub forwarding_table : Table CallForwardingRow
forwarding_table = record {
  span = facility_span;
  number = forwarding_start;
  key = forwarding_key;
  key_at = λ base hour. base + hour;
  with = λ base row. forwarding_with (s_id_in base) (type_in base) row;
  bare = λ row. forwarding_with 0 0 row;
}

-- the rules of the rows
abbrev pub IsInGroup : CallForwardingRow → Type 0
IsInGroup row = (row.s_id ≡ 0) × (row.sf_type ≡ 0) × IsTrue (is_start_time row.start_time)

-- what is found at a key, and what is left
pub forwarding_found : (key : ℕ) (rows : List CallForwardingRow) → option_map (forwarding_with (s_id_in key) (type_in key)) (row_at forwarding_start (start_time_in key) rows) ≡ value_at key (forwardings_listed (base_of facility_span key) rows)
forwarding_found key rows =
    ap (λ (s_id : ℕ). option_map (forwarding_with s_id (type_in key)) (row_at forwarding_start (start_time_in key) rows)) (sym (s_id_of_base key))
    ∙ ap (λ (kind : ℕ). option_map (forwarding_with (s_id_in (base_of facility_span key)) kind) (row_at forwarding_start (start_time_in key) rows)) (sym (type_of_base key))
    ∙ found_at forwarding_table rising (base_of facility_span key) key (start_time_in key) rows (started_key key)

pub forwarding_left : (key : ℕ) (rows : List CallForwardingRow) → forwardings_listed (base_of facility_span key) (without_row forwarding_start (start_time_in key) rows) ≡ without_row key_of_pair key (forwardings_listed (base_of facility_span key) rows)
forwarding_left key rows = left_at forwarding_table rising (base_of facility_span key) key (start_time_in key) rows (started_key key)

-- a group with other rows that keep the rules
holds_as : (at : ℕ) (before after : List CallForwardingRow) → HoldsForwardings at before → AreKept forwarding_start IsInGroup after → HoldsForwardings at after
holds_as at before after holds kept = record {
  at = holds.at;
  s_id = holds.s_id;
  sf_type = holds.sf_type;
  rules = record { ordered = kept.0; each = kept.1 };
}

pub holds_without : (at hour : ℕ) (rows : List CallForwardingRow) → HoldsForwardings at rows → HoldsForwardings at (without_row forwarding_start hour rows)
holds_without at hour rows holds = holds_as at rows (without_row forwarding_start hour rows) holds (kept_without forwarding_start IsInGroup hour rows (holds.rules.ordered, holds.rules.each))

-- a row that is added to a group, or replaces the one of its start time
module _ (row : CallForwardingRow) (in_range : forwarding_in_range row ≡ true) where
  hour_small : row.start_time < 256
  hour_small = let hour = ranges.forwarding_ranges row in_range in let small = hour.start_time_below in omega arith

  kind_small : row.sf_type < 256
  kind_small = let kind = ranges.forwarding_type row in_range in let small = kind.below in omega arith

  its_s_id : s_id_in (base_of facility_span (forwarding_key row)) ≡ row.s_id
  its_s_id = let hour = hour_small in let kind = kind_small in omega arith

  its_type : type_in (base_of facility_span (forwarding_key row)) ≡ row.sf_type
  its_type = let hour = hour_small in let kind = kind_small in omega arith

  at_home : IsAtHome forwarding_table row
  at_home = record { at = let hour = hour_small in let kind = kind_small in omega arith; number_is = refl; back = ap (λ (s_id : ℕ). forwarding_with s_id (type_in (base_of facility_span (forwarding_key row))) (forwarding_with 0 0 row)) its_s_id ∙ ap (λ (kind : ℕ). forwarding_with row.s_id kind (forwarding_with 0 0 row)) its_type }

  in_group : IsInGroup (forwarding_with 0 0 row)
  in_group = (refl, refl, starts (ranges.forwarding_ranges row in_range).start_time_is)
    where
      starts : (row.start_time ≡ 0) ⊎ ((row.start_time ≡ 8) ⊎ (row.start_time ≡ 16)) → is_start_time row.start_time ≡ true
      starts (inl e) = rw e refl
      starts (inr (inl e)) = rw e refl
      starts (inr (inr e)) = rw e refl

  pub forwarding_put : (before after : List CallForwardingRow) (answer : Result (Unit {0}) Refusal) → IsPut forwarding_start (forwarding_with 0 0 row) before after answer
      → IsPutAt (forwarding_key row) row (forwardings_listed (base_of facility_span (forwarding_key row)) before) (forwardings_listed (base_of facility_span (forwarding_key row)) after) (is_ok answer)
  forwarding_put before after answer h = put_at forwarding_table rising row at_home before after answer h

  pub holds_put : (at : ℕ) (before after : List CallForwardingRow) (answer : Result (Unit {0}) Refusal) → HoldsForwardings at before → IsPut forwarding_start (forwarding_with 0 0 row) before after answer → HoldsForwardings at after
  holds_put at before after answer holds h = holds_as at before after holds (kept_put forwarding_start IsInGroup (forwarding_with 0 0 row) before after answer in_group (holds.rules.ordered, holds.rules.each) h)

  pub forwarding_replaced : (before after : List CallForwardingRow) (old : Option CallForwardingRow) → old ≡ option_map (forwarding_with row.s_id row.sf_type) (row_at forwarding_start row.start_time before) → after ≡ with_row_at forwarding_start row.start_time (forwarding_with 0 0 row) before
      → IsReplacedAt (forwarding_key row) row (forwardings_listed (base_of facility_span (forwarding_key row)) before) (forwardings_listed (base_of facility_span (forwarding_key row)) after) old
  forwarding_replaced before after old value rows =
      replaced_at forwarding_table rising row at_home before after old (value ∙ ap (λ (s_id : ℕ). option_map (forwarding_with s_id row.sf_type) (row_at forwarding_start row.start_time before)) (sym its_s_id)
      ∙ ap (λ (kind : ℕ). option_map (forwarding_with (s_id_in (base_of facility_span (forwarding_key row))) kind) (row_at forwarding_start row.start_time before)) (sym its_type)) rows

  pub holds_replaced : (at : ℕ) (before after : List CallForwardingRow) → HoldsForwardings at before → after ≡ with_row_at forwarding_start row.start_time (forwarding_with 0 0 row) before → HoldsForwardings at after
  holds_replaced at before after holds h = holds_as at before after holds (kept_replaced forwarding_start IsInGroup (forwarding_with 0 0 row) row.start_time before after refl in_group (holds.rules.ordered, holds.rules.each) h)
