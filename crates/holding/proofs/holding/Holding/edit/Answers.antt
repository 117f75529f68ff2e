use Rattle.holding.proofs.Common.{◌≡◌, ◌+ℤ◌, arith, pos, subst, sym, ints, cell, net_of, delta_at}
use Rattle.holding.proofs.HeldLemmas.{change_fits}
use Rattle.holding.proofs.holding.Holding.edit.Goals as goal

pub note-requires : goal.note-requires
note-requires g c = change_fits _ c.make.new.part _ c.self.invariant c.make.ensures.after c.in_ok-moved.ensures.acts.range.2 c.in_ok-moved.ensures.acts.change

pub invariant_of-self : goal.invariant_of-self
invariant_of-self g c = record {
  rules = c.make.ensures.after;
  slot = c.self.invariant.slot;
  law = λ at lt. subst (λ width. net_of c.self.inside.desk.view at +ℤ delta_at c.self.inside.pending at ≡ pos (cell width at c.make.new.part.book)) (sym c.in_err-moved.ensures.acts.range.2)
      (omega (arith, ints, c.in_err-moved.ensures.acts.change at lt, c.self.invariant.law at lt));
  small = c.self.invariant.small;
  wide = c.self.invariant.wide;
}

pub invariant_of-self-2 : goal.invariant_of-self-2
invariant_of-self-2 g c = record {
  rules = c.make.ensures.after;
  slot = c.self.invariant.slot;
  law = λ at lt. subst (λ width. net_of c.self.inside.desk.view at +ℤ delta_at c.note.new.self at ≡ pos (cell width at c.make.new.part.book)) (sym c.in_ok-moved.ensures.acts.range.2)
      (omega (arith, ints, c.in_ok-moved.ensures.acts.change at lt, c.note.ensures at lt, c.self.invariant.law at lt));
  small = c.self.invariant.small;
  wide = c.self.invariant.wide;
}

pub returns-clause-after : goal.returns-clause-after
returns-clause-after g c = invariant_of-self-2 g c
