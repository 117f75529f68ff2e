use Rattle.holding.proofs.Common.{refl, ℕ, blank_at, CELLS}
use Rattle.holding.proofs.HeldLemmas.{empty_cell}
use Rattle.holding.proofs.MovedLemmas.{counts_pending}
use Rattle.holding.proofs.piece.Piece.blank.Goals as goal

pub invariant_of-result : goal.invariant_of-result
invariant_of-result c = record {
  rules = c.width-width.ensures.rules;
  law = λ k below. rw (c.zero.ensures, counts_pending, c.in-Ok.ensures.part, blank_at {A = ℕ} CELLS k 0, empty_cell 1 k) refl;
}
