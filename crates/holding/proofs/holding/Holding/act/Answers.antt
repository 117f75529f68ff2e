use Rattle.holding.proofs.Common.{◌≡◌, ◌+ℤ◌, arith, pos, subst, sym, ints, cell, net_of, delta_at}
use Rattle.holding.proofs.HeldLemmas.{change_fits}
use Rattle.holding.proofs.holding.Holding.act.Goals as goal

pub note-requires : goal.note-requires
note-requires g c = change_fits _ c.act-reply.new.self _ c.self.invariant c.act-reply.ensures.after c.act-reply.ensures.range.2 c.act-reply.ensures.change

pub invariant_of-self : goal.invariant_of-self
invariant_of-self g c = record {
  rules = c.act-reply.ensures.after;
  slot = c.self.invariant.slot;
  law = λ at lt. subst (λ width. net_of c.self.inside.desk.view at +ℤ delta_at c.note.new.self at ≡ pos (cell width at c.act-reply.new.self.book)) (sym c.act-reply.ensures.range.2) (omega (arith, ints, c.act-reply.ensures.change at lt, c.note.ensures at lt, c.self.invariant.law at lt));
  small = c.self.invariant.small;
  wide = c.self.invariant.wide;
}

pub returns-clause-before : goal.returns-clause-before
returns-clause-before g c = rw (← c.self.view_is) c.self.invariant

pub returns-clause-after : goal.returns-clause-after
returns-clause-after g c = invariant_of-self g c
