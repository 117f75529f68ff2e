-- The keys of the rows. All rows of a subscriber lie together, and a cut falls between two subscribers.
use Rattle.std.specs.Prelude.{ℕ, ◌+◌, ◌*◌}
use Rattle.tatp_rows.specs.Rows.{SubscriberRow, AccessInfoRow, SpecialFacilityRow, CallForwardingRow}

-- the key of the row with this s_id, type and start time; the parts that a table lacks are 0
abbrev pub key_of : ℕ → ℕ → ℕ → ℕ
key_of s_id kind start_time = s_id * 65536 + kind * 256 + start_time

-- the key of a Subscriber row
abbrev pub subscriber_key : SubscriberRow → ℕ
subscriber_key row = key_of row.s_id 0 0

-- the key of an Access_Info row
abbrev pub access_key : AccessInfoRow → ℕ
access_key row = key_of row.s_id row.ai_type 0

-- the key of a Special_Facility row
abbrev pub facility_key : SpecialFacilityRow → ℕ
facility_key row = key_of row.s_id row.sf_type 0

-- the key of a Call_Forwarding row
abbrev pub forwarding_key : CallForwardingRow → ℕ
forwarding_key row = key_of row.s_id row.sf_type row.start_time
