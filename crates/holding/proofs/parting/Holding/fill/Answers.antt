use Rattle.holding.proofs.Common.{refl, arith, ints}
use Rattle.holding.proofs.MovedLemmas.{sums_fit, counts_of, counts_pending}
use Rattle.holding.proofs.FillLemmas.{filled, given_to, counted_by}
use Rattle.holding.proofs.parting.Holding.fill.Goals as goal

pub add-requires : goal.add-requires
add-requires c = sums_fit _ c.cut_into.new.given _ c.new.invariant c.in_ok-counts.ensures.piece.rules (counts_of _ _ c.in_ok-counts.ensures.piece)

pub invariant_of-new-2 : goal.invariant_of-new-2
invariant_of-new-2 c =
    let idle = rw (← c.new.view_is) at c.requires.idle in
    let none = rw (← c.new.view_is) at c.requires.none in
    filled _ c.cut_into.new.given _ _ c.in_ok-counts.counts _ _ c.new.invariant c.in_ok-counts.ensures.piece idle none c.add.ensures

pub returns-clause-given : goal.returns-clause-given
returns-clause-given c =
    let none = rw (← c.new.view_is) at c.requires.none in
    given_to _ c.args.at _ _ _ _ c.in_ok-counts.ensures.given refl (λ k below. let before = none k below in let is = c.add.ensures k below in let count = counts_pending c.in_ok-counts.counts k in rw count (omega (arith, ints)))

pub returns-clause-counts : goal.returns-clause-counts
returns-clause-counts c =
    let none = rw (← c.new.view_is) at c.requires.none in
    counted_by _ _ c.in_ok-counts.ensures.piece refl (λ k below. let before = none k below in let is = c.add.ensures k below in let count = counts_pending c.in_ok-counts.counts k in rw count (omega (arith, ints)))

pub returns-clause-new : goal.returns-clause-new
returns-clause-new c = invariant_of-new-2 c
