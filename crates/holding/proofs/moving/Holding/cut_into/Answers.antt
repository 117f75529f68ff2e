use Rattle.holding.proofs.Common.{◌∙◌, ap, sym, refl, ℤ, ◌-ℤ◌, delta_at}
use Rattle.holding.proofs.MovedLemmas.{differences_fit, left, divided, counts_pending, are_piece}
use Rattle.holding.proofs.moving.Holding.cut_into.Goals as goal

pub subtract-requires : goal.subtract-requires
subtract-requires c = differences_fit _ c.slice_into.new.given _ c.self.invariant c.in_ok-slice_into.ensures.rules c.recount-counts.ensures

pub invariant_of-self-2 : goal.invariant_of-self-2
invariant_of-self-2 c =
    left _ c.slice_into.new.given _ _ _ _ _ _ c.self.invariant c.in_ok-slice_into.ensures.after c.recount-counts.ensures
    (divided c.args.side c.args.at _ _ _ c.self.invariant.rules c.in_ok-slice_into.ensures.given c.in_ok-slice_into.ensures.kept) c.subtract.ensures

pub returns-clause-given : goal.returns-clause-given
returns-clause-given c = rw (← c.self.view_is) (record {
  inside = rw (← c.self.view_is) at c.requires;
  given = c.in_ok-slice_into.ensures.given;
  kept = c.in_ok-slice_into.ensures.kept;
  less = λ k below. c.subtract.ensures k below ∙ ap (λ (z : ℤ). delta_at c.self.inside.pending k -ℤ z) (sym (counts_pending _ k));
  desk = refl;
  slot = refl;
})

pub returns-clause-after : goal.returns-clause-after
returns-clause-after c = invariant_of-self-2 c

pub returns-clause-piece : goal.returns-clause-piece
returns-clause-piece c = are_piece _ _ c.in_ok-slice_into.ensures.rules c.recount-counts.ensures
