-- Which task an event on rows asks a part for.
use Rattle.std.specs.Prelude.{◌≡◌, ℕ, Bool, true, false, Result, Ok, Err, ⊤}
use Rattle.holding.specs.declared.job.Job.{Job}
use Rattle.holding.specs.declared.job.Job.TheVariants as job
use Rattle.tatp_rows.specs.declared.refusal.Refusal.{Refusal}
use Rattle.tatp_actions.specs.Action.{is_in_range, s_id_of}
use Rattle.tatp_actions.specs.declared.action.Action.{Action}
use Rattle.hlr_core.specs.Edits.{IsRowAction}
use Rattle.hlr_core.specs.Tasks.{job_of}
use Rattle.hlr_core.specs.declared.event.Event.{Event}
use Rattle.hlr_core.specs.declared.event.Event.TheVariants as event
use Rattle.hlr_core.specs.declared.task.Task.{Task}
use Rattle.hlr_core.specs.declared.task.Task.TheVariants as task

-- the job is the action that is wanted, whose fields are in range, and which gives no number
abbrev pub AsksFor : Result Action Refusal → Job → Type 0
AsksFor wanted (job.Act act) = (wanted ≡ Ok act) × IsRowAction act × (is_in_range act ≡ true)
AsksFor wanted (job.Post limit) = ⊥

-- a task for the action that is wanted, or the refusal
abbrev pub IsTaskFor : Result Action Refusal → Result Task Refusal → Type 0
IsTaskFor wanted (Ok asked) = AsksFor wanted (job_of asked)
IsTaskFor wanted (Err why) = wanted ≡ Err why

-- an action is on the rows of this subscriber
abbrev pub IsOn : ℕ → Job → Type 0
IsOn s_id (job.Act act) = s_id ≡ s_id_of act
IsOn s_id (job.Post limit) = ⊤

-- a task that changes rows
abbrev pub changes_rows : Task → Bool
changes_rows (task.SubscriberData s_id) = false
changes_rows (task.NewDestination s_id sf_type start_time end_time) = false
changes_rows (task.AccessData s_id ai_type) = false
changes_rows (task.Post limit) = false
changes_rows _ = true

-- a task that is an administrative command
abbrev pub administers : Task → Bool
administers (task.AddAccess edit) = true
administers (task.AddFacility edit) = true
administers (task.SetActive edit) = true
administers _ = false

-- an event that changes rows, regions or parts
abbrev pub makes_change : Event → Bool
makes_change (event.SubscriberData s_id) = false
makes_change (event.NewDestination s_id sf_type start_time end_time) = false
makes_change (event.AccessData s_id ai_type) = false
makes_change (event.Post part limit) = false
makes_change _ = true
