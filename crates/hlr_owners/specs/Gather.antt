-- Holdings and loose pieces that `gather` takes: whether they make a register, and which one.
use Rattle.std.specs.Prelude.{◌≡◌, ℕ, ◌==◌, ◌||◌, nat_lt, not, List, ◌∷◌, ◌++◌, map, length, Option, Some, None, if◌then◌else◌}
use Rattle.std.specs.List.{AllByRecursion, list_all}
use Rattle.atomic_table.specs.Seated.{TableId}
use Rattle.tatp_rows.specs.Ordered.{in_order}
use Rattle.tatp_rows.specs.declared.refusal.Refusal.{Refusal}
use Rattle.tatp_rows.specs.declared.refusal.Refusal.TheVariants.{NoPart, ManyPieces, Field, NotAdjacent}
use Rattle.tatp_actions.specs.Joined.{book_of}
use Rattle.part_table.specs.Numbered.{numbered, do_follow}
use Rattle.part_table.specs.declared.region.Place.TheVariants.{Part, Piece}
use Rattle.part_table.specs.declared.region.Region.{Region}
use Rattle.part_table.specs.declared.region.TheConstants.{MOST_PARTS, MOST_PIECES}
use Rattle.view_board.specs.Desks.{DeskState}
use Rattle.holding.specs.Held.{HoldingState, PieceState}
use Rattle.hlr_owners.specs.Desks.{desk_of, ShareSlots, words_of, slots_in}
use Rattle.hlr_owners.specs.Held.{OwnerState, of_holding, of_piece}
use Rattle.hlr_owners.specs.Store.{Store}

-- all owners as they are handed in
abbrev pub states_of : List HoldingState → List PieceState → List OwnerState
states_of holdings pieces = map of_holding holdings ++ map of_piece pieces

-- the range of a holding, as a region whose number doesn't matter
abbrev pub holding_range : HoldingState → Region
holding_range holding = record { lo = holding.part.lo; hi = holding.part.hi; place = Part 0 }

-- the range of a piece, in the same way
abbrev pub piece_range : PieceState → Region
piece_range piece = record { lo = piece.part.lo; hi = piece.part.hi; place = Piece 0 }

-- their ranges, by where they begin
abbrev pub ranges_of : List HoldingState → List PieceState → List Region
ranges_of holdings pieces = in_order (λ range. range.lo) (map holding_range holdings ++ map piece_range pieces)

-- all desks are the board's, and share its slots
pub record MayGather (board : TableId) (spare : DeskState) (holdings : List HoldingState) : Type 0 where
  pub same : AllByRecursion (λ desk. desk.board ≡ board) (spare ∷ map desk_of holdings)
  pub shares : ShareSlots spare (map desk_of holdings)

-- the reason why they make no register, apart from memory and numbers
abbrev pub misfit : ℕ → List HoldingState → List PieceState → Option Refusal
misfit width holdings pieces =
    if (length holdings == 0) || nat_lt MOST_PARTS (length holdings) then Some NoPart
    else if nat_lt MOST_PIECES (length pieces) then Some ManyPieces
    else if not (list_all (λ state. state.part.width == width) (states_of holdings pieces)) then Some Field
    else if not (do_follow 1 (ranges_of holdings pieces)) then Some NotAdjacent
    else None

-- the store that they make: the rows in the order of the ranges, with parts and pieces numbered in that order
abbrev pub gathered : ℕ → DeskState → List HoldingState → List PieceState → Store
gathered width spare holdings pieces = record {
  book = book_of (map (λ state. state.part) (in_order (λ state. state.part.lo) (states_of holdings pieces)));
  regions = numbered 0 1 (ranges_of holdings pieces);
  words = words_of (spare ∷ map desk_of holdings);
  sight = spare.view.seen;
  slots = map (λ holding. slots_in (desk_of holding)) (in_order (λ holding. holding.part.lo) holdings);
  width = width;
}
