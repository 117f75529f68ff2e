-- What C is told of rows from a key on, and of the width of a zone. The register stays as it is.
use Rattle.std.specs.Prelude.{◌≡◌, ℕ, List}
use Rattle.tatp_actions.specs.Book.{Book}
use Rattle.tatp_actions.specs.Listed.{AreFilled}
use Rattle.hlr_owners.specs.Owners.{OwnersState, book_in}
use Rattle.hlr_c.specs.declared.codes.TheConstants.{DONE}

-- the code, the list of rows, and how many were written into it, which was this before: the first rows of those that a
-- function finds in the book
abbrev pub IsPage : {X : Type 0} → (Book → List X) → List X → OwnersState → ℕ × (List X × ℕ) → OwnersState → Type 0
IsPage rows_in before register answer after =
    (after ≡ register) × (answer.0 ≡ DONE) × AreFilled (rows_in (book_in register.owners)) before answer.1.1 answer.1.0

-- the code, and the width of a zone
abbrev pub IsWidthTold : OwnersState → ℕ × ℕ → OwnersState → Type 0
IsWidthTold register answer after = (after ≡ register) × (answer ≡ (DONE, register.width))
