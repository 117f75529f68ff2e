-- What calls inside the crate promise each other. No clause of a public call cites this.
use Rattle.std.specs.Prelude.{◌≡◌, ◌<◌, ◌≤◌, ◌+◌, ◌++◌, ℕ, true, false, List, [], ◌∷◌, length, Option, Some, None, insert, position, remove, slice_get, slice_set, slice_index_or, ⊤, ◌⊎◌, Vec, vec_capacity}
use Rattle.part_table.specs.Region.{is_part}
use Rattle.part_table.specs.declared.region.TheConstants.{MOST_PARTS}
use Rattle.holding.specs.Held.{HoldingState}
use Rattle.holding.specs.declared.job.Job.{Job}
use Rattle.hlr_owners.specs.Out.{outs_in}
use Rattle.hlr_owners.specs.Owners.{IsLent}
use Rattle.hlr_owners.specs.declared.part_owner.RegionOwner.TheVariants.{Part}
use Rattle.hlr_core.specs.Home.{IsLaterDesk}
use Rattle.hlr_core.specs.declared.event.Event.{Event}
use Rattle.hlr_core.specs.declared.event.Reply.{Reply}
use Rattle.hlr_core.specs.declared.event.Reply.TheVariants.{Divided, Dissolved}
use Rattle.hlr_core.specs.declared.route.Parts.{Parts}
use Rattle.hlr_workers.specs.Finish.{Sent}
use Rattle.hlr_workers.specs.Kept.{WorkersState, IsKept, engaged}
use Rattle.hlr_workers.specs.Session.{IsSession}
use Rattle.hlr_workers.specs.Standing.{IsAsBefore, Took, TookNext, changes_parts}

-- replies by their numbers, each put at its place, the last one first
abbrev pub put_answers : List (ℕ × Reply) → List (ℕ × Reply) → List (ℕ × Reply)
put_answers replies [] = replies
put_answers replies (one ∷ answers) = slice_set (put_answers replies answers) one.0 one

-- a part was out before, or has gone out, with no job yet
abbrev pub IsOut : ℕ → WorkersState → WorkersState → Type 0
IsOut part before after =
    (after.jobs ≡ before.jobs)
    × ((after.register ≡ before.register)
    ⊎ ((lent : HoldingState) × IsLent part before.register lent after.register × (slice_index_or before.jobs part [] ≡ [])))
    × ((lent : HoldingState) × (slice_get (outs_in after.register.owners) part ≡ Some (Some lent)))

-- a part that isn't out has no jobs
abbrev pub AreIdle : WorkersState → Type 0
AreIdle workers = (p : ℕ) → slice_index_or (outs_in workers.register.owners) p None ≡ None → slice_index_or workers.jobs p [] ≡ []

-- one job more
abbrev pub is_sent_more : Option Sent → ℕ × Job → Option Sent
is_sent_more None job = None
is_sent_more (Some sent) job = Some (record sent { jobs = sent.jobs ++ job ∷ [] })

-- a job was sent to a part, which has gone out for it, or was out before
abbrev pub IsSentTo : ℕ → ℕ × Job → WorkersState → WorkersState → Type 0
IsSentTo part job before after =
    (mid : WorkersState) × IsOut part before mid
    × (after ≡ record mid { jobs = slice_set mid.jobs part (slice_index_or mid.jobs part [] ++ job ∷ []) })

-- a part isn't out, or came home with its holding and the replies to its jobs
abbrev pub IsHomeAgain : ℕ → WorkersState → Option (List (ℕ × Reply)) → WorkersState → Type 0
IsHomeAgain part before None after = (after ≡ before) × (slice_index_or (outs_in before.register.owners) part None ≡ None)
IsHomeAgain part before (Some answers) after =
    (lent : HoldingState) × (home : HoldingState) × (index : ℕ)
    × (slice_get (outs_in before.register.owners) part ≡ Some (Some lent))
    × IsSession lent (slice_index_or before.jobs part []) answers home
    × (position (is_part part) before.register.regions ≡ Some index)
    × (after ≡ record {
      register = record before.register { owners = slice_set before.register.owners index (Part (record { holding = home; home = true })) };
      jobs = slice_set before.jobs part [];
    })

-- none of these parts is lent
abbrev pub NoneOutOf : Parts → WorkersState → Type 0
NoneOutOf parts workers = (q : ℕ) → parts.first ≤ q → q < parts.end → slice_index_or (outs_in workers.register.owners) q None ≡ None

-- parts came home: the rules are kept, and the engine stands where it did, with as many places for replies and as much
-- room; the register is the same but for its owners
pub record AreBrought {Z : Type 0} (workers : WorkersState) (replies : Vec (ℕ × Reply) Z) (after : WorkersState) (filled : Vec (ℕ × Reply) Z) : Type 0 where
  pub kept : IsKept after filled.items
  pub stands : IsAsBefore (engaged workers replies.items) (engaged after filled.items)
  pub places : length filled.items ≡ length replies.items
  pub capacity : vec_capacity filled ≡ vec_capacity replies
  pub register : after.register ≡ record workers.register { owners = after.register.owners }

-- an event is taken once this reply, or a blank while its job is out, stands behind the others; there is as much room
pub record IsAnswered {Z : Type 0} (event : Event) (reply : Reply) (workers : WorkersState) (replies : Vec (ℕ × Reply) Z) (after : WorkersState) (filled : Vec (ℕ × Reply) Z) : Type 0 where
  pub kept : IsKept after (filled.items ++ (length replies.items, reply) ∷ [])
  pub took : TookNext (Took event) (engaged workers replies.items) (engaged after (filled.items ++ (length replies.items, reply) ∷ []))
  pub places : length filled.items ≡ length replies.items
  pub capacity : vec_capacity filled ≡ vec_capacity replies
  pub spare : changes_parts event ≡ false → after.register.spare ≡ workers.register.spare
  pub desk : IsLaterDesk workers.register.spare after.register.spare

-- what a reply tells of parts that came or went: a new part has this number, or the part that had it is gone
pub data PartChange : Type 0 where
  Same : PartChange
  New : ℕ → PartChange
  Gone : ℕ → PartChange

-- any other reply tells of none
abbrev pub part_change_of : Reply → PartChange
part_change_of (Divided part lo hi) = New part
part_change_of (Dissolved front lo hi) = Gone (front + 1)
part_change_of _ = Same

-- a list with something for each part, after that
abbrev pub with_part_change : {A : Type 0} → PartChange → A → List A → List A
with_part_change Same blank each = each
with_part_change (New part) blank each = insert each part blank
with_part_change (Gone part) blank each = remove each part

-- among this many parts there is a place for it
abbrev pub IsPlace : PartChange → ℕ → Type 0
IsPlace Same parts = ⊤
IsPlace (New part) parts = (part ≤ parts) × (parts < MOST_PARTS)
IsPlace (Gone part) parts = part < parts

-- the parts whose numbers change with it, and the one that goes
abbrev pub IsBehind : PartChange → ℕ → Type 0
IsBehind Same q = ⊥
IsBehind (New part) q = part ≤ q
IsBehind (Gone part) q = part ≤ q

-- workers after it: a new part is home, as the one that is gone was, and all the parts behind it were
pub record AreWorkersChanged (told : PartChange) (before after : WorkersState) : Type 0 where
  pub outs : outs_in after.register.owners ≡ with_part_change told None (outs_in before.register.owners)
  pub jobs : after.jobs ≡ with_part_change told [] before.jobs
  pub place : IsPlace told (length (outs_in before.register.owners))
  pub home : (q : ℕ) → IsBehind told q → slice_index_or (outs_in before.register.owners) q None ≡ None
  pub idle : AreIdle before
