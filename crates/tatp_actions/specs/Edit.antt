-- What an action does to a part that has its subscriber.
use Rattle.std.specs.Prelude.{◌≡◌, ℕ, ◌+◌, ◌≤◌, List, [], ℤ, Result, Ok, Err}
use Rattle.tatp_rows.specs.declared.refusal.Refusal.{Refusal}
use Rattle.tatp_actions.specs.Action.{IsOutcome}
use Rattle.tatp_actions.specs.Change.{IsChange}
use Rattle.tatp_actions.specs.Part.{PartState}
use Rattle.tatp_actions.specs.declared.action.Action.{Action}
use Rattle.tatp_actions.specs.declared.action.RowReply.{RowReply}
use Rattle.tatp_actions.specs.declared.action.RowReply.TheVariants as reply

-- the notes of a change; a refusal has none
abbrev pub notes_of : Result (List (ℕ × ℤ)) Refusal → List (ℕ × ℤ)
notes_of (Ok notes) = notes
notes_of (Err why) = []

-- what an action does to a part: a right outcome, the exact change of every cell, the same range and width, no cut or
-- join, and at most eight questions
pub record Acts (action : Action) (before : PartState) (answer : RowReply) (notes : List (ℕ × ℤ)) (after : PartState) : Type 0 where
  pub outcome : IsOutcome action before.book answer after.book
  pub change : IsChange before.width before.book after.book notes
  pub refused : (why : Refusal) → answer ≡ reply.Refused why → (notes ≡ []) × (after.book ≡ before.book)
  pub range : (after.lo ≡ before.lo) × (after.hi ≡ before.hi) × (after.width ≡ before.width)
  pub steps : after.steps ≡ before.steps
  pub asked : after.asked ≤ before.asked + 8
