-- What a call from C returns, which is a code, and what it writes of the reply. A refusal writes nothing.
use Rattle.std.specs.Prelude.{ℕ, Result, Ok, Err}
use Rattle.tatp_rows.specs.Refusal.{code_of}
use Rattle.tatp_rows.specs.Rows.{SubscriberRow, AccessInfoRow}
use Rattle.tatp_rows.specs.declared.refusal.Refusal.{Refusal}
use Rattle.tatp_actions.specs.declared.action.RowReply.TheVariants as row_reply
use Rattle.hlr_core.specs.declared.event.Reply.{Reply}
use Rattle.hlr_core.specs.declared.event.Reply.TheVariants as reply
use Rattle.hlr_c.specs.declared.codes.TheConstants.{DONE}
use Rattle.hlr_c.specs.declared.rows.HlrNumbers.{HlrNumbers}
use Rattle.hlr_c.specs.declared.rows.HlrRegion.{HlrRegion}
use Rattle.hlr_c.specs.Rows.{numbers_for_c}

-- the code of a reply: that of its refusal, or 0
abbrev pub code_told : Reply → ℕ
code_told (reply.Refused why) = code_of why
code_told done = DONE

-- the code, and the row that was read
abbrev pub subscriber_told : SubscriberRow → Reply → ℕ × SubscriberRow
subscriber_told before (reply.Rows (row_reply.Row row)) = (DONE, row)
subscriber_told before other = (code_told other, before)

-- the code, and the row of what was read of an access
abbrev pub access_told : ℕ → ℕ → AccessInfoRow → Reply → ℕ × AccessInfoRow
access_told s_id ai_type before (reply.Rows (row_reply.AccessRow data1 data2 data3 data4)) =
    (DONE, record { s_id = s_id; ai_type = ai_type; data1 = data1; data2 = data2; data3 = data3; data4 = data4 })
access_told s_id ai_type before other = (code_told other, before)

-- the code, and the numbers that calls are forwarded to
abbrev pub numbers_told : HlrNumbers → Reply → ℕ × HlrNumbers
numbers_told before (reply.Rows (row_reply.Numbers numbers)) = (DONE, numbers_for_c numbers.items)
numbers_told before other = (code_told other, before)

-- the code, and how many cells were posted
abbrev pub posted_told : ℕ → Reply → ℕ × ℕ
posted_told before (reply.Posted count) = (DONE, count)
posted_told before other = (code_told other, before)

-- the code, and the loose piece that was given away
abbrev pub given_told : HlrRegion → Reply → ℕ × HlrRegion
given_told before (reply.Given piece lo hi) = (DONE, record { lo = lo; hi = hi; is_piece = 1; number = piece })
given_told before other = (code_told other, before)

-- the code, and the new part of a divide, or the part in front of one that was dissolved
abbrev pub part_told : HlrRegion → Reply → ℕ × HlrRegion
part_told before (reply.Divided part lo hi) = (DONE, record { lo = lo; hi = hi; is_piece = 0; number = part })
part_told before (reply.Dissolved part lo hi) = (DONE, record { lo = lo; hi = hi; is_piece = 0; number = part })
part_told before other = (code_told other, before)

-- the code, and how many bounds a recut moved
abbrev pub recut_told : ℕ → Result ℕ Refusal → ℕ × ℕ
recut_told before (Ok count) = (DONE, count)
recut_told before (Err why) = (code_of why, before)
