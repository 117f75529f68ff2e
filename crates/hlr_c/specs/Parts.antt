-- What a call from C does to a lent part, and what it returns.
use Rattle.std.specs.Prelude.{◌≡◌, ◌&&◌, ℕ, Bool, true, false, nat_le, nat_lt, if◌then◌else◌, Result, Ok, Err}
use Rattle.tatp_rows.specs.Refusal.{code_of}
use Rattle.tatp_rows.specs.declared.refusal.Refusal.{Refusal}
use Rattle.tatp_rows.specs.declared.refusal.Refusal.TheVariants.{Field}
use Rattle.tatp_actions.specs.Action.{effect, is_in_range, s_id_of}
use Rattle.tatp_actions.specs.declared.action.Action.{Action}
use Rattle.holding.specs.Held.{HoldingState}
use Rattle.holding.specs.declared.job.Job.TheVariants.{Act, Post}
use Rattle.hlr_core.specs.Session.{IsJobDone}
use Rattle.hlr_core.specs.Step.{reply_of}
use Rattle.hlr_core.specs.declared.event.Reply.{Reply}
use Rattle.hlr_core.specs.declared.event.Reply.TheVariants as reply
use Rattle.hlr_c.specs.declared.codes.TheConstants.{DONE, ELSEWHERE}
use Rattle.hlr_c.specs.Told.{code_told, posted_told}

-- a subscriber lies in the part
abbrev pub has : ℕ → HoldingState → Bool
has s_id part = nat_le part.part.lo s_id && nat_lt s_id part.part.hi

-- the answer to a read, given whether its fields are in range, and whether its subscriber is in the part's range
abbrev pub read_by : {X : Type 0} → Bool → Bool → Action → (Reply → X) → X → HoldingState → X
read_by false here act told elsewhere part = told (reply.Refused Field)
read_by true false act told elsewhere part = elsewhere
read_by true true act told elsewhere part = told (reply_of (effect act part.part.book).0)

-- a read of a part's rows, which changes nothing
abbrev pub IsPartRead : {X : Type 0} → Action → (Reply → X) → X → HoldingState → X → HoldingState → Type 0
IsPartRead act told elsewhere before answer after =
    (after ≡ before) × (answer ≡ read_by (is_in_range act) (has (s_id_of act) before) act told elsewhere before)

-- the code of a change for a subscriber who isn't in the part's range
abbrev pub code_elsewhere : Action → ℕ
code_elsewhere act = if is_in_range act then ELSEWHERE else code_of Field

-- a change for a subscriber in the part's range, which is done as a job, and is refused if a field is out of range; or
-- for another subscriber, and nothing changes
abbrev pub IsPartStep : Bool → Action → HoldingState → ℕ → HoldingState → Type 0
IsPartStep true act before code after = (said : Reply) × IsJobDone (Act act) before said after × (code ≡ code_told said)
IsPartStep false act before code after = (code ≡ code_elsewhere act) × (after ≡ before)

-- a change that is asked for, or the refusal of a field
abbrev pub IsPartEdit : Result Action Refusal → HoldingState → ℕ → HoldingState → Type 0
IsPartEdit (Ok act) before code after = IsPartStep (has (s_id_of act) before) act before code after
IsPartEdit (Err why) before code after = (code ≡ code_of why) × (after ≡ before)

-- a posting of the part, and how many cells were posted
abbrev pub IsPartPost : ℕ → ℕ → HoldingState → ℕ × ℕ → HoldingState → Type 0
IsPartPost limit posted before answer after =
    (said : Reply) × IsJobDone (Post limit) before said after × (answer ≡ posted_told posted said)

-- the range of the part, which stays as it is
abbrev pub IsPartRange : HoldingState → ℕ × (ℕ × ℕ) → HoldingState → Type 0
IsPartRange before answer after = (after ≡ before) × (answer ≡ (DONE, (before.part.lo, before.part.hi)))
