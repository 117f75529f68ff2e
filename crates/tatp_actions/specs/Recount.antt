-- What each row counts in the cells: no clause of a public call cites these.
use Rattle.std.specs.Prelude.{ℕ, zero, suc, ◌+◌, ◌-◌, ◌^◌, ◌==◌, nat_lt, Bool, false, List, if◌then◌else◌, slice_index, slice_set}
use Rattle.std.specs.Option.{option_map_or}
use Rattle.mr_node.specs.Rows.{value_at}
use Rattle.tatp_rows.specs.Keys.{key_of}
use Rattle.tatp_rows.specs.Rows.{SubscriberRow, SpecialFacilityRow, CallForwardingRow}
use Rattle.tatp_rows.specs.Zones.{zone_of, area_of}
use Rattle.tatp_actions.specs.declared.cells.TheConstants.{FIRST_AREA, FIRST_ZONE}

-- the counts of rows so far, by zones of a width and beside the facilities of a part
pub record Tallied : Type 0 where
  pub cells : List ℕ
  pub facilities : List (ℕ × SpecialFacilityRow)
  pub width : ℕ

-- the counts with one more in a cell, where its count has room
abbrev pub one_more_in : ℕ → List ℕ → List ℕ
one_more_in cell counts = if nat_lt (slice_index counts cell) (2 ^ 64 - 1) then slice_set counts cell (slice_index counts cell + 1) else counts

-- the counts with one more row of a subscriber, in the cell of its zone
abbrev pub with_row_of : ℕ → ℕ → List ℕ → List ℕ
with_row_of width s_id counts = one_more_in (FIRST_ZONE + zone_of width s_id) counts

-- the counts with one more Subscriber row, in the cells of its area and of its zone
abbrev pub with_subscriber : ℕ → SubscriberRow → List ℕ → List ℕ
with_subscriber width row counts = with_row_of width row.s_id (one_more_in (FIRST_AREA + area_of row.vlr_location) counts)

-- a stored facility is active
abbrev pub is_active_at : ℕ → List (ℕ × SpecialFacilityRow) → Bool
is_active_at key facilities = option_map_or (λ facility. facility.is_active == 1) (value_at key facilities) false

-- the stored facility of a forwarding is active
abbrev pub is_active_in : List (ℕ × SpecialFacilityRow) → CallForwardingRow → Bool
is_active_in facilities row = is_active_at (key_of row.s_id row.sf_type 0) facilities

-- the counts with one more in each of this many hours, from one on
abbrev pub one_more_from : ℕ → ℕ → List ℕ → List ℕ
one_more_from hour zero counts = counts
one_more_from hour (suc n) counts = one_more_from (hour + 1) n (one_more_in hour counts)

-- the counts with one more Call_Forwarding row, in the cell of its zone and, where it is active, in each hour that it
-- covers
abbrev pub with_forwarding : ℕ → Bool → CallForwardingRow → List ℕ → List ℕ
with_forwarding width active row counts =
    with_row_of width row.s_id (if active then one_more_from row.start_time (row.end_time - row.start_time) counts else counts)
