-- What calls inside the crate promise each other. No clause of a public call cites this.
use Rattle.std.specs.Prelude.{◌≡◌, ℕ, ◌<◌, ◌^◌, true, List, Result, Ok, Err, ◌⊎◌, ℤ, pos, neg_ℤ, ◌≤ℤ◌}
use Rattle.std.specs.List.{AllByRecursion}
use Rattle.tatp_rows.specs.declared.refusal.Refusal.{Refusal}
use Rattle.tatp_rows.specs.declared.refusal.Refusal.TheVariants.{Memory}
use Rattle.tatp_actions.specs.Book.{empty_book}
use Rattle.tatp_actions.specs.declared.cells.TheConstants.{CELLS}
use Rattle.part_table.specs.declared.region.Region.{Region}
use Rattle.holding.specs.Held.{HoldingState, IsHolding}
use Rattle.hlr_owners.specs.WhileOut.{IsMovedWhileOut}
use Rattle.hlr_owners.specs.Out.{outs_in}
use Rattle.view_board.specs.Desks.{DeskState}
use Rattle.hlr_owners.specs.Owners.{OwnersState, homes_in, is_home, of_part}
use Rattle.hlr_owners.specs.Store.{Store}
use Rattle.hlr_owners.specs.declared.part_owner.RegionOwner.{RegionOwner}

-- a sum for each cell is at most 2^60, either way
abbrev pub AreSummable : (ℕ → ℤ) → Type 0
AreSummable sum = (c : ℕ) → c < CELLS → (neg_ℤ (pos (2 ^ 60)) ≤ℤ sum c) × (sum c ≤ℤ pos (2 ^ 60))

-- each owner is home
abbrev pub IsEachHome : List RegionOwner → Type 0
IsEachHome owners = AllByRecursion (λ (owner : RegionOwner). is_home owner ≡ true) owners

-- a holding of a region that has no row
pub record IsOpened (region : Region) (width : ℕ) (holding : HoldingState) : Type 0 where
  pub from : holding.part.lo ≡ region.lo
  pub to : holding.part.hi ≡ region.hi
  pub zones : holding.part.width ≡ width
  pub no_rows : holding.part.book ≡ empty_book
  pub rules : IsHolding holding

-- what becomes of a store where a piece is handed on: only the regions move, to those after it; or, where memory was
-- wanted, they are as they were, or as only the give leaves them
abbrev pub IsHanded : Result (List Region) Refusal → List Region → Store → Result (Unit {0}) Refusal → Store → Type 0
IsHanded whole half before (Ok done) after = (whole ≡ Ok after.regions) × (after ≡ record before { regions = after.regions })
IsHanded whole half before (Err why) after =
    (why ≡ Memory) × (after ≡ record before { regions = after.regions }) × ((after.regions ≡ before.regions) ⊎ (after.regions ≡ half))

-- what a move leaves: who is home, which holdings are lent, the desk of the slots that no part has, and the width; and
-- of the store only the regions move, no matter what the lent holdings have become
pub record IsMovedAlone (before after : OwnersState) : Type 0 where
  pub homes : homes_in after.owners ≡ homes_in before.owners
  pub outs : outs_in after.owners ≡ outs_in before.owners
  pub same : after ≡ record before { regions = after.regions; owners = after.owners }
  pub while_out : IsMovedWhileOut before after

-- the desk of a part, and none of a piece
abbrev pub desk_at : RegionOwner → List DeskState
desk_at owner = of_part (λ part_owner_state. part_owner_state.holding.desk) owner
