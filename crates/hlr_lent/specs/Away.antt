-- When an event gets no reply: it needs a lent part, and no refusal is known without that part.
use Rattle.std.specs.Prelude.{◌≡◌, ◌⊎◌, ℕ, true, List, Result, Ok, Err}
use Rattle.tatp_rows.specs.declared.refusal.Refusal.{Refusal}
use Rattle.part_table.specs.Dissolve.{dissolve_answer}
use Rattle.part_table.specs.Divide.{divide_answer}
use Rattle.part_table.specs.Give.{give_answer}
use Rattle.part_table.specs.Take.{take_answer}
use Rattle.part_table.specs.declared.region.Region.{Region}
use Rattle.holding.specs.declared.job.Job.{Job}
use Rattle.hlr_owners.specs.Owners.{OwnersState}
use Rattle.hlr_core.specs.Home.{IsHomeTo}
use Rattle.hlr_core.specs.Route.{IsAskedJob, is_here}
use Rattle.hlr_core.specs.declared.event.Event.{Event}
use Rattle.hlr_core.specs.declared.event.Event.TheVariants.{Give, Take, Divide, Dissolve}

-- the refusal of a result, if it is one
abbrev pub refusal_of : {A : Type 0} → Result A Refusal → Result (Unit {0}) Refusal
refusal_of (Ok done) = Ok tt
refusal_of (Err why) = Err why

-- whether the regions allow an event that moves them, or that makes or dissolves a part; if not, the refusal
abbrev pub allowed : Event → List Region → Result (Unit {0}) Refusal
allowed (Give part side at) regions = refusal_of (give_answer part side at regions)
allowed (Take piece part) regions = refusal_of (take_answer piece part regions)
allowed (Divide part at) regions = refusal_of (divide_answer part at regions)
allowed (Dissolve part) regions = refusal_of (dissolve_answer part regions)
allowed event regions = Ok tt

-- an event asks for work: for a job, if its fields are in range and its number is known, or for what the register
-- itself does, if the regions allow it
abbrev pub IsAsking : Event → OwnersState → Type 0
IsAsking event h = ((is_here event ≡ true) × (allowed event h.regions ≡ Ok tt)) ⊎ ((part : ℕ) × (job : Job) × IsAskedJob event h part job)

-- an event needs a lent part, and asks for work
pub record IsAway (event : Event) (h : OwnersState) : Type 0 where
  pub out : ¬ (IsHomeTo event h)
  pub asking : IsAsking event h
