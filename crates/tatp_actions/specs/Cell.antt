-- The cells: plain counts over the rows of a book.
use Rattle.std.specs.Prelude.{ℕ, ◌+◌, ◌-◌, ◌==◌, ◌&&◌, nat_le, nat_lt, Bool, if◌then◌else◌, count_by}
use Rattle.tatp_rows.specs.Rows.{CallForwardingRow}
use Rattle.tatp_rows.specs.Zones.{zone_of, area_of}
use Rattle.tatp_actions.specs.Book.{Book, facility_at, has_active}
use Rattle.tatp_actions.specs.declared.cells.TheConstants.{FIRST_AREA, FIRST_ZONE}

-- the facility of a forwarding is active
abbrev pub has_active_facility : Book → CallForwardingRow → Bool
has_active_facility book row = has_active (facility_at book row.s_id row.sf_type)

-- a forwarding covers an hour: it starts no later, and ends after it
abbrev pub covers : CallForwardingRow → ℕ → Bool
covers row hour = nat_le row.start_time hour && nat_lt hour row.end_time

-- how many forwardings that cover an hour have an active facility
unfoldable pub active_forwardings : ℕ → Book → ℕ
active_forwardings hour book = count_by (λ row. covers row hour && has_active_facility book row) book.forwardings

-- how many subscribers are in an area
unfoldable pub in_area : ℕ → Book → ℕ
in_area area book = count_by (λ row. area_of row.vlr_location == area) book.subscribers

-- how many rows of all four tables belong to the subscribers of a zone
unfoldable pub in_zone : ℕ → ℕ → Book → ℕ
in_zone width zone book =
    count_by (λ row. zone_of width row.s_id == zone) book.subscribers
    + count_by (λ row. zone_of width row.s_id == zone) book.access
    + count_by (λ row. zone_of width row.s_id == zone) book.facilities
    + count_by (λ row. zone_of width row.s_id == zone) book.forwardings

-- the count of a cell: active forwardings by hour, then subscribers by area, then rows by zone
abbrev pub cell : ℕ → ℕ → Book → ℕ
cell width c book =
    if nat_lt c FIRST_AREA then active_forwardings c book
    else (if nat_lt c FIRST_ZONE then in_area (c - FIRST_AREA) book else in_zone width (c - FIRST_ZONE) book)
