-- A piece that a holding gave away, and one that it took; a holding that was divided, and one that was dissolved.
use Rattle.std.specs.Prelude.{◌≡◌, ℕ, ◌<◌, List, ℤ, pos, ◌+ℤ◌, ◌-ℤ◌}
use Rattle.tatp_actions.specs.Cut.{given_part, kept_part, melded, Touch}
use Rattle.tatp_actions.specs.Part.{PartState}
use Rattle.tatp_actions.specs.declared.cells.TheConstants.{CELLS}
use Rattle.part_table.specs.declared.region.Side.{Side}
use Rattle.part_table.specs.declared.region.Side.TheVariants.{High}
use Rattle.view_board.specs.Desks.{DeskState, with_view}
use Rattle.view_board.specs.Nets.{net_of}
use Rattle.view_board.specs.Views.{OwnsAlone, taken_back}
use Rattle.view_board.specs.declared.rule.View.{View}
use Rattle.view_delta.specs.Pending.{delta_at}
use Rattle.holding.specs.Held.{HoldingState, PieceState, IsPiece}

-- the subscriber is strictly inside the range of a part
abbrev pub IsInside : ℕ → PartState → Type 0
IsInside at part = (part.lo < at) × (at < part.hi)

-- a piece that a holding gave away, with its counts pending, and the holding without it
pub record IsGiven (side : Side) (at : ℕ) (before : HoldingState) (piece : PieceState) (after : HoldingState) : Type 0 where
  pub inside : IsInside at before.part
  pub given : piece.part ≡ record (given_part side at before.part) {
    asked = 0;
    steps = 0;
    heights = piece.part.heights;
  }
  pub kept : after.part ≡ record (kept_part side at before.part) {
    steps = after.part.steps;
    heights = after.part.heights;
  }
  pub less : (c : ℕ) → c < CELLS → delta_at after.pending c ≡ delta_at before.pending c -ℤ delta_at piece.pending c
  pub desk : after.desk ≡ before.desk
  pub slot : after.slot ≡ before.slot

-- a holding with a piece that it took, whose counts are pending too
pub record IsTaken (before : HoldingState) (piece : PieceState) (after : HoldingState) : Type 0 where
  pub touch : Touch before.part piece.part
  pub whole : after.part ≡ record (melded before.part piece.part) {
    steps = after.part.steps;
    heights = after.part.heights;
  }
  pub more : (c : ℕ) → c < CELLS → delta_at after.pending c ≡ delta_at before.pending c +ℤ delta_at piece.pending c
  pub desk : after.desk ≡ before.desk
  pub slot : after.slot ≡ before.slot

-- what a holding has, as a loose piece of which nothing is published
abbrev pub as_piece : HoldingState → PieceState
as_piece holding = record { part = holding.part; pending = holding.pending }

-- the desk of a new part: it has one slot, and has published a net of 0 of each cell
pub record IsBlankDesk (view : View) : Type 0 where
  pub slot : ℕ
  pub alone : OwnsAlone view slot
  pub idle : (c : ℕ) → c < CELLS → net_of view c ≡ pos 0

-- a holding that was divided: it gave away what is from a subscriber on, all of which is pending with the new holding,
-- whose desk this is
pub record IsHoldingDivided (at : ℕ) (before : HoldingState) (desk : DeskState) (new after : HoldingState) : Type 0 where
  pub given : IsGiven High at before (as_piece new) after
  pub counts : IsPiece (as_piece new)
  pub own : new.desk ≡ desk

-- a holding that was dissolved: the one in front of it took its rows, whose counts are pending there, and the desk that
-- is left has taken back all that it had published
pub record IsMerged (before gone : HoldingState) (desk : DeskState) (after : HoldingState) : Type 0 where
  pub counts : List ℤ
  pub counted : IsPiece (record { part = gone.part; pending = counts })
  pub taken : IsTaken before (record { part = gone.part; pending = counts }) after
  pub back : desk ≡ with_view gone.desk (taken_back gone.desk.view gone.slot)
  pub idle : (c : ℕ) → c < CELLS → net_of desk.view c ≡ pos 0
