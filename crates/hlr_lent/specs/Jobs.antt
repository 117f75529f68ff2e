-- The jobs that a holding does from when it is lent until it comes home.
use Rattle.std.specs.Prelude.{◌≡◌, ℕ, true, List, [], ◌∷◌, Some, position, slice_get, slice_set}
use Rattle.part_table.specs.Region.{is_part}
use Rattle.holding.specs.Held.{HoldingState}
use Rattle.holding.specs.declared.job.Job.{Job}
use Rattle.hlr_owners.specs.Out.{outs_in}
use Rattle.hlr_owners.specs.Owners.{OwnersState}
use Rattle.hlr_owners.specs.declared.part_owner.RegionOwner.TheVariants.{Part}
use Rattle.hlr_core.specs.Session.{IsJobDone, IsNumberless}
use Rattle.hlr_core.specs.declared.event.Reply.{Reply}

-- jobs that give no number, the last one first and each with the reply to it, make the second holding of the first
abbrev pub AreDone : HoldingState → List (Job × Reply) → HoldingState → Type 0
AreDone lent [] now = now ≡ lent
AreDone lent (last ∷ earlier) now =
    (before : HoldingState) × AreDone lent earlier before × IsNumberless last.0 × IsJobDone last.0 before last.1 now

-- a holding is what some such jobs have made of the one that was lent
abbrev pub IsWorked : HoldingState → HoldingState → Type 0
IsWorked lent now = (jobs : List (Job × Reply)) × AreDone lent jobs now

-- a part that was lent is home again, with a holding that such jobs have made of the one that was lent
pub record IsBack (part : ℕ) (before after : OwnersState) : Type 0 where
  pub lent : HoldingState
  pub home : HoldingState
  pub index : ℕ
  pub out : slice_get (outs_in before.owners) part ≡ Some (Some lent)
  pub worked : IsWorked lent home
  pub region : position (is_part part) before.regions ≡ Some index
  pub becomes : after ≡ record before { owners = slice_set before.owners index (Part (record { holding = home; home = true })) }
