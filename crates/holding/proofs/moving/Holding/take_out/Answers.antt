use Rattle.holding.proofs.Common.{refl, ℕ, map, ap, pos, blank_at, PartState, CELLS}
use Rattle.holding.proofs.HeldLemmas.{empty_cell}
use Rattle.holding.proofs.MovedLemmas.{sums_fit, counts_of, counts_pending}
use Rattle.holding.proofs.moving.Holding.take_out.Goals as goal

pub add-requires : goal.add-requires
add-requires c = sums_fit _ c.piece.inside.part _ c.self.invariant c.piece.invariant.rules (counts_of _ _ c.piece.invariant)

pub invariant_of-piece-2 : goal.invariant_of-piece-2
invariant_of-piece-2 c = record {
  rules = c.in_ok-take_in.ensures.rest;
  law = λ k below. rw (c.zero-piece-inside.ensures, counts_pending, ap (λ (p : PartState). p.book) c.in_ok-take_in.ensures.left, blank_at {A = ℕ} CELLS k 0, empty_cell c.take_in.new.part.width k) refl;
}

pub returns-clause-taken : goal.returns-clause-taken
returns-clause-taken c = rw (← c.piece.view_is) (c.in_ok-take_in.ensures.taken (map pos c.piece.inside.pending) c.piece.invariant)
