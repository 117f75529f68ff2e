-- What goes through a worker's queue: the holding as it is lent, its jobs, and the order to end. At most one pass may
-- push, and knows what was sent; at most one may pop, and knows what was received; the rest waits in the queue.
use Rattle.std.specs.Prelude.{◌≡◌, ℕ, ◌≤◌, Bool, true, List, [], ◌∷◌, ◌++◌, length, map, ⊤}
use Rattle.std.specs.List.{AllByRecursion}
use mathlib.Core.Option.{some}
use lib.ListN.{get_elem?}
use Rattle.arrayvec.specs.ArrayVec.{ArrayVec}
use Rattle.tatp_actions.specs.Book.{empty_book}
use Rattle.tatp_actions.specs.Heights.{zero_heights}
use Rattle.view_board.specs.Views.{nobody}
use Rattle.holding.specs.Held.{HoldingState}
use Rattle.holding.specs.declared.job.Job.{Job}
use Rattle.hlr_core.specs.Session.{IsWithinJob}
use Rattle.hlr_core.specs.Tasks.{job_of}
use Rattle.hlr_workers.specs.declared.message.Log.{Log}
use Rattle.hlr_workers.specs.declared.message.Message.{Message}
use Rattle.hlr_workers.specs.declared.message.Message.TheVariants.{Begin, Do, Stop}
use Rattle.hlr_workers.specs.declared.message.Numbered.{Numbered}
use Rattle.hlr_workers.specs.declared.work.TheConstants.{MOST_PENDING}

-- what a pass knows: whether it may push and pop, what was sent, and what was received
abbrev pub log : Bool → Bool → List Message → List Message → Log
log pushes pops sent got = record { pushes = pushes; pops = pops; sent = sent; got = got }

-- a holding without meaning, for a queue to which none was sent
abbrev pub nothing : HoldingState
nothing = record {
  part = record { book = empty_book; asked = 0; lo = 0; hi = 0; width = 0; steps = 0; heights = zero_heights };
  pending = [];
  desk = record { board = record { words = 0; slots = 0; views_name = 0; atom = 0; block = 0; offset = 0; slot_names = [] }; view = nobody };
  slot = 0;
}

-- a job with its number
abbrev pub job_pair : Numbered → ℕ × Job
job_pair one = (one.number, job_of one.task)

-- the jobs of a message
abbrev pub jobs_in : ArrayVec Numbered → List (ℕ × Job)
jobs_in batch = map job_pair batch.items

-- jobs that a holding may be asked for
abbrev pub AreWithin : HoldingState → List (ℕ × Job) → Type 0
AreWithin holding jobs = AllByRecursion (λ (job : ℕ × Job). IsWithinJob holding job.1) jobs

-- jobs of a holding
abbrev pub AreJobs : HoldingState → List Message → Type 0
AreJobs holding [] = ⊤
AreJobs holding (Begin lent ∷ messages) = ⊥
AreJobs holding (Do batch ∷ messages) = AreWithin holding (jobs_in batch) × AreJobs holding messages
AreJobs holding (Stop ∷ messages) = AreJobs holding messages

-- a holding, and then jobs of it
abbrev pub IsStarted : List Message → Type 0
IsStarted [] = ⊥
IsStarted (Begin lent ∷ messages) = AreJobs lent.holding.value messages
IsStarted (Do batch ∷ messages) = ⊥
IsStarted (Stop ∷ messages) = ⊥

-- what may have been sent so far: nothing, or a holding and jobs of it
abbrev pub IsInShape : List Message → Type 0
IsInShape [] = ⊤
IsInShape (message ∷ messages) = IsStarted (message ∷ messages)

-- the holding that was lent
abbrev pub lent_of : List Message → HoldingState
lent_of [] = nothing
lent_of (Begin lent ∷ messages) = lent.holding.value
lent_of (Do batch ∷ messages) = nothing
lent_of (Stop ∷ messages) = nothing

-- the jobs, each with its number
abbrev pub jobs_of : List Message → List (ℕ × Job)
jobs_of [] = []
jobs_of (Begin lent ∷ messages) = jobs_of messages
jobs_of (Do batch ∷ messages) = jobs_in batch ++ jobs_of messages
jobs_of (Stop ∷ messages) = jobs_of messages

-- such messages, with no more jobs than there is room for replies
abbrev pub IsWellSent : List Message → Type 0
IsWellSent messages = IsInShape messages × (length (jobs_of messages) ≤ MOST_PENDING)

-- the knowledge of a pass is right: one that may push knows all that was sent, and one that may pop knows all that was
-- received
abbrev pub IsKnown : ℕ → ℕ → List Message → List Message → ℕ → Log → Type 0
IsKnown writer reader sent got pass v =
    (v.pushes ≡ true → (pass ≡ writer) × (v.sent ≡ sent)) × (v.pops ≡ true → (pass ≡ reader) × (v.got ≡ got))

-- the rule of the queue
abbrev pub IsRelayed : List Message → List Log → Type 0
IsRelayed waiting views =
    (writer : ℕ) × (reader : ℕ) × (sent : List Message) × (got : List Message) × (sent ≡ got ++ waiting) × IsWellSent sent
    × ((pass : ℕ) (v : Log) → get_elem? views pass ≡ some v → IsKnown writer reader sent got pass v)
