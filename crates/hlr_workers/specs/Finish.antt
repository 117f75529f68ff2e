-- What a worker's thread has done, and hands back.
use Rattle.std.specs.Prelude.{◌≡◌, ℕ, ◌≤◌, List, [], ◌∷◌, ◌++◌, length, true, false}
use Rattle.arrayvec.specs.ArrayVec.{ArrayVec}
use Rattle.holding.specs.Held.{HoldingState}
use Rattle.holding.specs.declared.job.Job.{Job}
use Rattle.hlr_core.specs.declared.event.Reply.{Reply}
use Rattle.hlr_workers.specs.Session.{IsSession}
use Rattle.hlr_workers.specs.Relay.{log, AreWithin, IsStarted, IsWellSent, jobs_in, jobs_of, lent_of}
use Rattle.hlr_workers.specs.declared.message.Log.{Log}
use Rattle.hlr_workers.specs.declared.message.Message.{Message}
use Rattle.hlr_workers.specs.declared.message.Numbered.{Numbered}
use Rattle.hlr_workers.specs.declared.work.TheConstants.{MOST_PENDING}

-- a holding has done all jobs of the messages that were received, with these replies
abbrev pub HasDone : List Message → List (ℕ × Reply) → HoldingState → Type 0
HasDone got answers holding = IsStarted got × IsSession (lent_of got) (jobs_of got) answers holding

-- a worker has done all jobs that it received
abbrev pub IsAtWork : Log → List (ℕ × Reply) → HoldingState → Type 0
IsAtWork v answers holding = (v ≡ log false true [] v.got) × HasDone v.got answers holding

-- some more jobs were done, no matter which were done before them
abbrev pub IsSessionMore : List (ℕ × Job) → List (ℕ × Reply) → HoldingState → List (ℕ × Reply) → HoldingState → Type 0
IsSessionMore more answers before answers' after =
    (lent : HoldingState) (jobs : List (ℕ × Job)) → IsSession lent jobs answers before → IsSession lent (jobs ++ more) answers' after

-- what was sent to a worker: the holding as it was lent, and then numbered jobs
pub record Sent : Type 0 where
  pub lent : HoldingState
  pub jobs : List (ℕ × Job)

-- jobs that are held count as sent
abbrev pub sent_with : Log → ArrayVec Numbered → Sent
sent_with v held = record { lent = lent_of v.sent; jobs = jobs_of v.sent ++ jobs_in held }

-- the router may send the jobs that are held
pub record MaySend (v : Log) (held : ArrayVec Numbered) : Type 0 where
  pub log : v ≡ log true false v.sent []
  pub started : IsStarted v.sent
  pub within : AreWithin (lent_of v.sent) (jobs_in held)
  pub room : length (jobs_of v.sent ++ jobs_in held) ≤ MOST_PENDING

-- a message may be received by a holding that has done all jobs before it
abbrev pub MayDo : Message → List (ℕ × Reply) → HoldingState → Type 0
MayDo message answers holding = (got : List Message) × HasDone got answers holding × IsWellSent (got ++ message ∷ [])
