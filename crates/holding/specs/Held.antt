-- The local law: what an owner has published of a cell and what is pending of it are the count over its own rows.
use Rattle.std.specs.Prelude.{◌≡◌, ℕ, ◌<◌, ◌^◌, List, ℤ, pos, neg_ℤ, ◌+ℤ◌, ◌≤ℤ◌}
use Rattle.tatp_actions.specs.Cell.{cell}
use Rattle.tatp_actions.specs.Part.{PartState, IsPart}
use Rattle.tatp_actions.specs.declared.cells.TheConstants.{CELLS}
use Rattle.view_board.specs.Desks.{DeskState}
use Rattle.view_board.specs.Nets.{net_of}
use Rattle.view_board.specs.Views.{IsLeastSlot, IsWide}
use Rattle.view_board.specs.declared.rule.View.{View}
use Rattle.view_delta.specs.Pending.{delta_at}

-- a part with what is pending of each cell, the desk of its owner, and the slot that postings raise
pub record HoldingState : Type 0 where
  pub part : PartState
  pub pending : List ℤ
  pub desk : DeskState
  pub slot : ℕ

-- a loose part, of which nothing is posted
pub record PieceState : Type 0 where
  pub part : PartState
  pub pending : List ℤ

-- the count of a cell over the rows of a part
abbrev pub count_of : PartState → ℕ → ℕ
count_of part c = cell part.width c part.book

-- what is published of each cell is at most 2^40 in size
abbrev pub HasSmallNets : View → Type 0
HasSmallNets view = (c : ℕ) → c < CELLS → (neg_ℤ (pos (2 ^ 40)) ≤ℤ net_of view c) × (net_of view c ≤ℤ pos (2 ^ 40))

-- the rules of a holding
pub record IsHolding (holding : HoldingState) : Type 0 where
  pub rules : IsPart holding.part
  pub slot : IsLeastSlot holding.desk.view holding.slot
  pub law : (c : ℕ) → c < CELLS → net_of holding.desk.view c +ℤ delta_at holding.pending c ≡ pos (count_of holding.part c)
  pub small : HasSmallNets holding.desk.view
  pub wide : IsWide holding.desk.view

-- the rules of a piece
pub record IsPiece (piece : PieceState) : Type 0 where
  pub rules : IsPart piece.part
  pub law : (c : ℕ) → c < CELLS → delta_at piece.pending c ≡ pos (count_of piece.part c)
