use Rattle.holding.proofs.Common.{ap, ℤ, pos, blank_at, CELLS, PartState}
use Rattle.holding.proofs.FillLemmas.{alone_least, emptied}
use Rattle.holding.proofs.parting.Holding.absorb.Goals as goal

pub withdraw-requires-clause-alone : goal.withdraw-requires-clause-alone
withdraw-requires-clause-alone c =
    let own = rw (← c.other.view_is) at c.requires.alone in
    alone_least c.other.inside.desk.view c.other.inside.slot own.0 c.other.invariant.slot own.1

pub invariant_of-other-2 : goal.invariant_of-other-2
invariant_of-other-2 c =
    let empty = ap (λ (p : PartState). p.book) c.in_ok-take_in.ensures.left in
    rw c.zero-other-inside.ensures (emptied _ _ _ _ _ _ _ c.other.invariant c.in_ok-take_in.ensures.rest empty c.withdraw.ensures.back c.withdraw.ensures.idle (λ k below. blank_at {A = ℤ} CELLS k (pos 0)))

pub returns-clause-taken : goal.returns-clause-taken
returns-clause-taken c = rw (← c.other.view_is) c.in_ok-take_in.ensures.taken
