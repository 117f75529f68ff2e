-- The change of an action: by how much each cell rises or falls.
use Rattle.std.specs.Prelude.{◌≡◌, ◌≢◌, ℕ, zero, suc, ◌+◌, ◌<◌, ◌==◌, ⊤, Bool, false, List, [], ◌∷◌, ◌++◌, ℤ, pos, negsuc, ◌+ℤ◌, ◌≤ℤ◌, if◌then◌else◌, slice_index_or}
use Rattle.std.specs.Int.RustNames.{FitsSigned}
use Rattle.std.specs.List.{AllByRecursion}
use mir.Syntax.{w64}
use Rattle.tatp_actions.specs.Book.{Book}
use Rattle.tatp_actions.specs.Cell.{cell}
use Rattle.tatp_actions.specs.declared.cells.TheConstants.{CELLS}

-- a note names a cell, and its amount is not 0 and at most 8 in size
abbrev pub IsNote : ℕ × ℤ → Type 0
IsNote note = (note.0 < CELLS) × (negsuc 7 ≤ℤ note.1) × (note.1 ≤ℤ pos 8) × (note.1 ≢ pos 0)

-- no cell is noted twice
abbrev pub NoteEachOnce : List (ℕ × ℤ) → Type 0
NoteEachOnce [] = ⊤
NoteEachOnce (note ∷ notes) = AllByRecursion (λ other. other.0 ≢ note.0) notes × NoteEachOnce notes

-- an amount is 0
abbrev pub is_zero : ℤ → Bool
is_zero (pos n) = n == 0
is_zero (negsuc n) = false

-- the note of a cell, unless its amount is 0
abbrev pub note_of : ℕ → ℤ → List (ℕ × ℤ)
note_of cell amount = if is_zero amount then [] else (cell, amount) ∷ []

-- the notes of this many hours from one on, each by its amount
unfoldable pub hour_notes : (ℕ → ℤ) → ℕ → ℕ → List (ℕ × ℤ)
hour_notes amount zero hour = []
hour_notes amount (suc n) hour = note_of hour (amount hour) ++ hour_notes amount n (hour + 1)

-- by how much the notes move a cell in all
abbrev pub change_at : List (ℕ × ℤ) → ℕ → ℤ
change_at [] c = pos 0
change_at (note ∷ notes) c = (if note.0 == c then note.1 else pos 0) +ℤ change_at notes c

-- the delta of a cell
abbrev pub delta_at : List ℤ → ℕ → ℤ
delta_at deltas c = slice_index_or deltas c (pos 0)

-- each delta fits 64 bits, and so does its sum with what the notes move it by
abbrev pub NotesFit : List ℤ → List (ℕ × ℤ) → Type 0
NotesFit deltas notes = (c : ℕ) → c < CELLS → FitsSigned w64 (delta_at deltas c) × FitsSigned w64 (delta_at deltas c +ℤ change_at notes c)

-- the notes are the exact change of every cell from one book to another
abbrev pub IsChange : ℕ → Book → Book → List (ℕ × ℤ) → Type 0
IsChange width before after notes =
    (c : ℕ) → c < CELLS → pos (cell width c after) ≡ pos (cell width c before) +ℤ change_at notes c
