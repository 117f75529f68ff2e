-- Jobs on the holdings of parts: what each does to its holding, and the reply to it.
use Rattle.std.specs.Prelude.{◌≡◌, ◌==◌, ◌↔◌, ℕ, not, List, [], ◌∷◌, ◌++◌, None, Some, Result, position, slice_get, slice_set, ⊤}
use Rattle.std.specs.List.{filter}
use Rattle.tatp_rows.specs.declared.refusal.Refusal.{Refusal}
use Rattle.tatp_actions.specs.Action.{IsOutcome, s_id_of}
use Rattle.tatp_actions.specs.Book.{IsWithin}
use Rattle.tatp_actions.specs.declared.action.Action.{Action}
use Rattle.tatp_actions.specs.declared.action.RowReply.{RowReply}
use Rattle.part_table.specs.Region.{is_part}
use Rattle.part_table.specs.Regions.{place_of}
use Rattle.part_table.specs.declared.region.Place.TheVariants as place
use Rattle.part_table.specs.declared.region.Region.{Region}
use Rattle.holding.specs.Held.{HoldingState, IsHolding, count_of}
use Rattle.holding.specs.Post as own
use Rattle.holding.specs.declared.job.Job.{Job}
use Rattle.holding.specs.declared.job.Job.TheVariants.{Act, Post}
use Rattle.hlr_owners.specs.PartOwnerState.{PartOwnerState}
use Rattle.hlr_owners.specs.declared.part_owner.RegionOwner.{RegionOwner}
use Rattle.hlr_owners.specs.declared.part_owner.RegionOwner.TheVariants.{Part}
use Rattle.hlr_core.specs.Step.{given_number, reply_of, posted_reply}
use Rattle.hlr_core.specs.declared.event.Reply.{Reply}

-- an action on a holding, and the reply to it
pub record IsActed (act : Action) (before : HoldingState) (answer : Reply) (after : HoldingState) : Type 0 where
  pub rows : RowReply
  pub outcome : IsOutcome act before.part.book rows after.part.book
  pub answered : answer ≡ reply_of rows
  pub range : (after.part.lo ≡ before.part.lo) × (after.part.hi ≡ before.part.hi) × (after.part.width ≡ before.part.width)
  pub desk : (after.desk ≡ before.desk) × (after.slot ≡ before.slot)
  pub rules : IsHolding after

-- a posting of a holding, and the reply to it
pub record IsPosted (limit : ℕ) (before : HoldingState) (answer : Reply) (after : HoldingState) : Type 0 where
  pub posted : Result ℕ Refusal
  pub done : (posted, after.desk.view) ≡ own.post (count_of before.part) before.slot limit before.desk.view
  pub answered : answer ≡ posted_reply posted
  pub part : after.part ≡ before.part
  pub desk : (after.desk.board ≡ before.desk.board) × (after.desk.view.owned ≡ before.desk.view.owned) × (after.slot ≡ before.slot)
  pub lawful : IsHolding before
  pub rules : IsHolding after

-- a job done by a holding, and the reply to it
abbrev pub IsJobDone : Job → HoldingState → Reply → HoldingState → Type 0
IsJobDone (Act act) before answer after = IsActed act before answer after
IsJobDone (Post limit) before answer after = IsPosted limit before answer after

-- a job that gives no number
abbrev pub IsNumberless : Job → Type 0
IsNumberless (Act act) = given_number act ≡ None
IsNumberless (Post limit) = ⊤

-- a job of a part: a posting, or an action on a subscriber of the part that gives no number
abbrev pub IsJobOf : List Region → ℕ → Job → Type 0
IsJobOf regions p (Act act) = (place_of (s_id_of act) regions ≡ Some (place.Part p)) × IsNumberless (Act act)
IsJobOf regions p (Post limit) = ⊤

-- a holding can do the job: the subscriber of an action is in its range
abbrev pub IsWithinJob : HoldingState → Job → Type 0
IsWithinJob holding (Act act) = IsWithin holding.part.lo holding.part.hi (s_id_of act)
IsWithinJob holding (Post limit) = ⊤

-- a job done by the holding of a part, among all owners
pub record IsDoneAt (regions : List Region) (p : ℕ) (job : Job) (before : List RegionOwner) (answer : Reply) (after : List RegionOwner) : Type 0 where
  pub index : ℕ
  pub part_owner_state : PartOwnerState
  pub holding : HoldingState
  pub region : position (is_part p) regions ≡ Some index
  pub owner : slice_get before index ≡ Some (Part part_owner_state)
  pub done : IsJobDone job part_owner_state.holding answer holding
  pub is : after ≡ slice_set before index (Part (record part_owner_state { holding = holding }))

-- a job of a part, and the reply to it
pub record JobReply : Type 0 where
  pub part : ℕ
  pub job : Job
  pub answer : Reply

-- jobs are done one after another, each by the holding of its part, no matter what the other parts are
abbrev pub AreDone : List Region → List RegionOwner → List JobReply → List RegionOwner → Type 0
AreDone regions before [] after = after ≡ before
AreDone regions before (one ∷ jobs) after =
    (next : List RegionOwner) × IsDoneAt regions one.part one.job before one.answer next × AreDone regions next jobs after

-- the jobs of a part, in order
abbrev pub jobs_of : ℕ → List JobReply → List JobReply
jobs_of p jobs = filter (λ one. one.part == p) jobs

-- the jobs of all parts but one, in order
abbrev pub jobs_of_others : ℕ → List JobReply → List JobReply
jobs_of_others p jobs = filter (λ one. not (one.part == p)) jobs

-- jobs of different parts commute: the jobs of any part can be done before all others, with the same replies, and lead
-- to the same owners
abbrev pub JobsCommute : List Region → Type 0
JobsCommute regions =
    (p : ℕ) (jobs : List JobReply) (before after : List RegionOwner)
    → AreDone regions before jobs after ↔ AreDone regions before (jobs_of p jobs ++ jobs_of_others p jobs) after
