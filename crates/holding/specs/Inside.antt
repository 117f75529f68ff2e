-- What calls inside the crate promise each other; no public clause cites it.
use Rattle.std.specs.Prelude.{◌≡◌, ℕ, ◌<◌, List, true, false, ℤ, pos, ◌+ℤ◌, slice_set, Result, Ok, Err}
use Rattle.tatp_rows.specs.declared.refusal.Refusal.{Refusal}
use Rattle.tatp_rows.specs.declared.refusal.Refusal.TheVariants as refusal
use Rattle.tatp_actions.specs.Part.{PartState}
use Rattle.tatp_actions.specs.declared.cells.TheConstants.{CELLS}
use Rattle.view_board.specs.Desks.{with_view}
use Rattle.view_board.specs.Views.{posted}
use Rattle.view_board.specs.Words.{is_worn}
use Rattle.view_delta.specs.Pending.{delta_at}
use Rattle.holding.specs.Held.{HoldingState, IsPiece, count_of}
use Rattle.holding.specs.Moved.{IsTaken}

-- one cell of a posting: what is pending of it is posted, and nothing is pending then
abbrev pub with_cell_posted : ℕ → HoldingState → HoldingState
with_cell_posted c before = record before {
  pending = slice_set before.pending c (pos 0);
  desk = with_view before.desk (posted before.desk.view before.slot c (delta_at before.pending c));
}

-- a cell is posted, unless its word would wear
abbrev pub IsCellPosted : ℕ → HoldingState → Result (Unit {0}) Refusal → HoldingState → Type 0
IsCellPosted c before (Ok done) after =
    (is_worn before.desk.view.numbers before.slot c (delta_at before.pending c) ≡ false)
    × (after ≡ with_cell_posted c before)
IsCellPosted c before (Err why) after =
    (is_worn before.desk.view.numbers before.slot c (delta_at before.pending c) ≡ true)
    × (why ≡ refusal.Worn)
    × (after ≡ before)

-- what is pending with the counts of a part's rows too
abbrev pub IsPendingWith : PartState → List ℤ → List ℤ → Type 0
IsPendingWith part before after =
    (c : ℕ) → c < CELLS → delta_at after c ≡ delta_at before c +ℤ pos (count_of part c)

-- a holding takes a part as it takes a piece of that part, whichever list of its counts this has
abbrev pub TakesPart : HoldingState → PartState → HoldingState → Type 0
TakesPart before part after =
    (counts : List ℤ) → IsPiece (record { part = part; pending = counts })
    → IsTaken before (record { part = part; pending = counts }) after
