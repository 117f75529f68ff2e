-- The rows of the four tables (TATP, sections 2.1 to 2.4), and the ranges of their fields, which are this project's
-- choice.
use Rattle.std.specs.Prelude.{ℕ, ◌==◌, ◌&&◌, ◌||◌, nat_le, Bool, List, length, if◌then◌else◌, Result, Ok, Err}
use Rattle.std.specs.List.{list_all}
use Rattle.tatp_rows.specs.Number.{is_number}
use Rattle.tatp_rows.specs.declared.ranges.TheConstants.{LAST_SUBSCRIBER}
use Rattle.tatp_rows.specs.declared.refusal.Refusal.{Refusal}
use Rattle.tatp_rows.specs.declared.refusal.Refusal.TheVariants.{Field}

-- Subscriber (section 2.1): bits, hexes and bytes are bit_1.., hex_1.. and byte2_1.., ten of each
pub record SubscriberRow : Type 0 where
  pub s_id : ℕ
  pub sub_nbr : ℕ
  pub bits : List ℕ
  pub hexes : List ℕ
  pub bytes : List ℕ
  pub msc_location : ℕ
  pub vlr_location : ℕ

-- Access_Info (section 2.2)
pub record AccessInfoRow : Type 0 where
  pub s_id : ℕ
  pub ai_type : ℕ
  pub data1 : ℕ
  pub data2 : ℕ
  pub data3 : List ℕ
  pub data4 : List ℕ

-- Special_Facility (section 2.3)
pub record SpecialFacilityRow : Type 0 where
  pub s_id : ℕ
  pub sf_type : ℕ
  pub is_active : ℕ
  pub error_cntrl : ℕ
  pub data_a : ℕ
  pub data_b : List ℕ

-- Call_Forwarding (section 2.4)
pub record CallForwardingRow : Type 0 where
  pub s_id : ℕ
  pub sf_type : ℕ
  pub start_time : ℕ
  pub end_time : ℕ
  pub numberx : ℕ

-- the number lies in low..=high
abbrev pub is_between : ℕ → ℕ → ℕ → Bool
is_between low high n = nat_le low n && nat_le n high

-- the number, where it lies in low..=high
abbrev pub between : ℕ → ℕ → ℕ → Result ℕ Refusal
between low high n = if is_between low high n then Ok n else Err Field

-- the list has this length, and each of its numbers lies in low..=high
abbrev pub are_between : ℕ → ℕ → ℕ → List ℕ → Bool
are_between size low high ns = (length ns == size) && list_all (is_between low high) ns

-- the fields of a Subscriber row are in range
abbrev pub subscriber_in_range : SubscriberRow → Bool
subscriber_in_range row =
    is_between 1 LAST_SUBSCRIBER row.s_id && (is_number row.sub_nbr
    && (are_between 10 0 1 row.bits && (are_between 10 0 15 row.hexes && (are_between 10 0 255 row.bytes
    && (is_between 1 4294967295 row.msc_location && is_between 1 4294967295 row.vlr_location)))))

-- the fields of an Access_Info row are in range; letters are A to Z
abbrev pub access_in_range : AccessInfoRow → Bool
access_in_range row =
    is_between 1 LAST_SUBSCRIBER row.s_id && (is_between 1 4 row.ai_type && (is_between 0 255 row.data1
    && (is_between 0 255 row.data2 && (are_between 3 65 90 row.data3 && are_between 5 65 90 row.data4))))

-- the fields of a Special_Facility row are in range
abbrev pub facility_in_range : SpecialFacilityRow → Bool
facility_in_range row =
    is_between 1 LAST_SUBSCRIBER row.s_id && (is_between 1 4 row.sf_type && (is_between 0 1 row.is_active
    && (is_between 0 255 row.error_cntrl && (is_between 0 255 row.data_a && are_between 5 65 90 row.data_b))))

-- the hours at which a forwarding may start
abbrev pub is_start_time : ℕ → Bool
is_start_time n = n == 0 || (n == 8 || n == 16)

-- the fields of a Call_Forwarding row are in range; its end may lie before its start
abbrev pub forwarding_in_range : CallForwardingRow → Bool
forwarding_in_range row =
    is_between 1 LAST_SUBSCRIBER row.s_id && (is_between 1 4 row.sf_type
    && (is_start_time row.start_time && (is_between 1 24 row.end_time && is_number row.numberx)))

-- the Subscriber row of these fields, where they are in range
abbrev pub subscriber_of : SubscriberRow → Result SubscriberRow Refusal
subscriber_of row = if subscriber_in_range row then Ok row else Err Field

-- the Access_Info row of these fields, where they are in range
abbrev pub access_of : AccessInfoRow → Result AccessInfoRow Refusal
access_of row = if access_in_range row then Ok row else Err Field

-- the Special_Facility row of these fields, where they are in range
abbrev pub facility_of : SpecialFacilityRow → Result SpecialFacilityRow Refusal
facility_of row = if facility_in_range row then Ok row else Err Field

-- the Call_Forwarding row of these fields, where they are in range
abbrev pub forwarding_of : CallForwardingRow → Result CallForwardingRow Refusal
forwarding_of row = if forwarding_in_range row then Ok row else Err Field
