-- What an owner has not posted yet: a delta for each cell, and the sums that fit 64 bits.
use Rattle.std.specs.Prelude.{◌≡◌, ◌≢◌, ℕ, ◌<◌, ◌≤◌, List, Option, Some, None, ℤ, pos, ◌+ℤ◌, ◌-ℤ◌, slice_index}
use Rattle.std.specs.Int.RustNames.{FitsSigned}
use mir.Syntax.{w64}
pub use Rattle.tatp_actions.specs.Change.{NotesFit, delta_at, is_zero}
use Rattle.tatp_actions.specs.declared.cells.TheConstants.{CELLS}

-- each sum of a delta and a count fits
abbrev pub SumsFit : List ℤ → List ℕ → Type 0
SumsFit pending counts = (c : ℕ) → c < CELLS → FitsSigned w64 (delta_at pending c +ℤ pos (slice_index counts c))

-- each delta less a count fits
abbrev pub DifferencesFit : List ℤ → List ℕ → Type 0
DifferencesFit pending counts = (c : ℕ) → c < CELLS → FitsSigned w64 (delta_at pending c -ℤ pos (slice_index counts c))

-- nothing is pending of the cells from one on up to another, which is left out
abbrev pub AreZero : ℕ → ℕ → List ℤ → Type 0
AreZero from to pending = (c : ℕ) → from ≤ c → c < to → delta_at pending c ≡ pos 0

-- the first cell from one on of which something is pending, if there is any
abbrev pub IsNextNonzero : ℕ → List ℤ → Option ℕ → Type 0
IsNextNonzero from pending None = AreZero from CELLS pending
IsNextNonzero from pending (Some cell) =
    (from ≤ cell) × (cell < CELLS) × (delta_at pending cell ≢ pos 0) × AreZero from cell pending
