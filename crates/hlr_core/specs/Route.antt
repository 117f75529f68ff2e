-- Where an event goes. What is said here of a reply or a job is right regardless of which jobs the holdings have done
-- since.
use Rattle.std.specs.Prelude.{◌≡◌, ◌⊎◌, ℕ, ◌<◌, Bool, true, false, List, length, Ok}
use Rattle.holding.specs.declared.job.Job.{Job}
use Rattle.holding.specs.declared.job.Job.TheVariants as job
use Rattle.hlr_owners.specs.Owners.{OwnersState, book_in, homes_in, store_in}
use Rattle.hlr_owners.specs.declared.part_owner.RegionOwner.{RegionOwner}
use Rattle.hlr_core.specs.Home.{IsHomeTo}
use Rattle.hlr_core.specs.Later.{AreLater, with_owners}
use Rattle.hlr_core.specs.Session.{IsDoneAt, IsJobOf}
use Rattle.hlr_core.specs.Step.{IsStep, action_for}
use Rattle.hlr_core.specs.declared.event.Event.{Event}
use Rattle.hlr_core.specs.declared.event.Event.TheVariants.{AddSubscriber, SetNumber, Post, Give, Take, Divide, Dissolve}
use Rattle.hlr_core.specs.declared.event.Reply.{Reply}
use Rattle.hlr_core.specs.declared.route.Route.{Route}
use Rattle.hlr_core.specs.declared.route.Route.TheVariants.{Now, To, Here}

-- the reply is right, and the event changes nothing
abbrev pub IsRightNow : Event → OwnersState → Reply → Type 0
IsRightNow event h answer =
    (owners : List RegionOwner) → AreLater h.owners owners
    → IsStep event (store_in (with_owners h owners)) answer (store_in (with_owners h owners))

-- the job is the action that the event asks for, whichever part has it, or the posting to this part
abbrev pub IsAskedJob : Event → OwnersState → ℕ → Job → Type 0
IsAskedJob event h p (job.Act act) = action_for event (book_in h.owners) ≡ Ok act
IsAskedJob event h p (job.Post limit) = event ≡ Post p limit

-- what the job does to the part's holding, with any reply that it may have, is a right step of the whole store
abbrev pub IsRightSent : Event → OwnersState → ℕ → Job → Type 0
IsRightSent event h p job =
    (owners after : List RegionOwner) (answer : Reply) → AreLater h.owners owners → IsDoneAt h.regions p job owners answer after
    → IsStep event (store_in (with_owners h owners)) answer (store_in (with_owners h after))

-- the register itself does the event: it gives a number, moves regions, or makes or dissolves a part
abbrev pub is_here : Event → Bool
is_here (AddSubscriber row) = true
is_here (SetNumber s_id sub_nbr) = true
is_here (Give part side at) = true
is_here (Take piece part) = true
is_here (Divide part at) = true
is_here (Dissolve part) = true
is_here _ = false

-- the event asks for a job of a part, or for what the register itself does
abbrev pub AsksWork : Event → OwnersState → Type 0
AsksWork event h = (is_here event ≡ true) ⊎ ((part : ℕ) × (job : Job) × IsAskedJob event h part job)

-- a right route: the reply, if the event asks for no work, or if all parts on which it works are home; a job of an
-- existing part, for which the event asks; or the register itself
abbrev pub IsRouted : Event → OwnersState → Route → Type 0
IsRouted event h (Now answer) = IsRightNow event h answer × (AsksWork event h → IsHomeTo event h)
IsRouted event h (To p job) = (p < length (homes_in h.owners)) × IsJobOf h.regions p job × IsAskedJob event h p job × IsRightSent event h p job
IsRouted event h Here = is_here event ≡ true
