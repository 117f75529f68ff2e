-- What an engine has, and the rules that it keeps.
use Rattle.std.specs.Prelude.{◌≡◌, ◌≤◌, ℕ, List, [], length, Option, None, Some, slice_get, ⊤}
use Rattle.std.specs.List.{AllByRecursion}
use Rattle.holding.specs.Held.{HoldingState}
use Rattle.holding.specs.declared.job.Job.{Job}
use Rattle.hlr_owners.specs.Out.{outs_in}
use Rattle.hlr_owners.specs.Owners.{OwnersState}
use Rattle.hlr_core.specs.declared.event.Reply.{Reply}
use Rattle.hlr_workers.specs.Finish.{Sent}
use Rattle.hlr_workers.specs.Session.{AreNumberless}
use Rattle.hlr_workers.specs.Standing.{AreNumbered, Engaged, numbered_in}

-- a register, in which a lent part is as it was when it was lent, and the jobs that were sent to each lent part, by the
-- parts' numbers
pub record WorkersState : Type 0 where
  pub register : OwnersState
  pub jobs : List (List (ℕ × Job))

-- the jobs that a worker has, if there is one
abbrev pub jobs_at : Option Sent → List (ℕ × Job)
jobs_at None = []
jobs_at (Some sent) = sent.jobs

-- a lent part has a worker, to whom its holding and jobs that give no number were sent, and a part that is home has
-- none
abbrev pub HasWorker : Option HoldingState → Option Sent → Type 0
HasWorker None None = ⊤
HasWorker None (Some sent) = ⊥
HasWorker (Some lent) None = ⊥
HasWorker (Some lent) (Some sent) = (sent.lent ≡ lent) × AreNumberless sent.jobs

-- jobs that give no number, of each part
abbrev pub AllNumberless : List (List (ℕ × Job)) → Type 0
AllNumberless jobs = AllByRecursion AreNumberless jobs

-- the rules of the numbers: each event has a place, with its number; no two jobs have the same number, and none has
-- that of an event that wasn't taken; and no part has more jobs than there are events
pub record InOrder (jobs : List (List (ℕ × Job))) (replies : List (ℕ × Reply)) : Type 0 where
  pub places : AreNumbered replies
  pub once : (k : ℕ) → numbered_in k jobs ≤ 1
  pub below : (k : ℕ) → length replies ≤ k → numbered_in k jobs ≡ 0
  pub few : (p : ℕ) (own : List (ℕ × Job)) → slice_get jobs p ≡ Some own → length own ≤ length replies

-- what an engine has
abbrev pub engaged : WorkersState → List (ℕ × Reply) → Engaged
engaged workers replies = record { register = workers.register; jobs = workers.jobs; replies = replies }

-- the rules that the workers and the kept replies keep together
pub record IsKept (workers : WorkersState) (replies : List (ℕ × Reply)) : Type 0 where
  pub paired : length workers.jobs ≡ length (outs_in workers.register.owners)
  pub none : AllNumberless workers.jobs
  pub order : InOrder workers.jobs replies

-- no part is lent
abbrev pub NoneOut : WorkersState → Type 0
NoneOut workers = AllByRecursion (λ (out : Option HoldingState). out ≡ None) (outs_in workers.register.owners)
