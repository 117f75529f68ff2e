-- The owners of all regions, parts and loose pieces, and the rules that they keep together.
use Rattle.std.specs.Prelude.{◌≡◌, ℕ, ◌<◌, List, [], ◌∷◌, ℤ, pos, ◌+ℤ◌}
use Rattle.tatp_actions.specs.Part.{PartState, IsPart}
use Rattle.tatp_actions.specs.declared.cells.TheConstants.{CELLS}
use Rattle.part_table.specs.declared.region.Region.{Region}
use Rattle.view_board.specs.Nets.{net_of}
use Rattle.view_board.specs.Views.{nobody}
use Rattle.view_board.specs.declared.rule.View.{View}
use Rattle.view_delta.specs.Pending.{delta_at}
use Rattle.holding.specs.Held.{HoldingState, PieceState, HasSmallNets, count_of}

-- an owner of rows: a part's holding, or a loose piece, which has published nothing
pub record OwnerState : Type 0 where
  pub part : PartState
  pub pending : List ℤ
  pub view : View

-- a holding as an owner
abbrev pub of_holding : HoldingState → OwnerState
of_holding holding = record { part = holding.part; pending = holding.pending; view = holding.desk.view }

-- a loose piece as an owner, with a desk that owns no slot
abbrev pub of_piece : PieceState → OwnerState
of_piece piece = record { part = piece.part; pending = piece.pending; view = nobody }

-- what is pending of a cell in all owners together
abbrev pub pending_in : List OwnerState → ℕ → ℤ
pending_in [] c = pos 0
pending_in (state ∷ states) c = delta_at state.pending c +ℤ pending_in states c

-- the local law: what is published and what is pending of each cell add up to the count over the owner's rows
pub record IsLawful (state : OwnerState) : Type 0 where
  pub rules : IsPart state.part
  pub law : (c : ℕ) → c < CELLS → net_of state.view c +ℤ delta_at state.pending c ≡ pos (count_of state.part c)
  pub small : HasSmallNets state.view

-- the rules of the owner of a region: it has the rows of the region and no others, and keeps the local law
pub record IsOwnerState (width : ℕ) (region : Region) (state : OwnerState) : Type 0 where
  pub from : state.part.lo ≡ region.lo
  pub to : state.part.hi ≡ region.hi
  pub zones : state.part.width ≡ width
  pub keeps : IsLawful state
