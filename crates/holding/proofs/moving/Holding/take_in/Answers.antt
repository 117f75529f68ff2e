use Rattle.holding.proofs.Common.{◌≡◌, Touch, PartState}
use Rattle.holding.proofs.MovedLemmas.{grown, joined}
use Rattle.holding.proofs.moving.Holding.take_in.Goals as goal

pub invariant_of-self-2 : goal.invariant_of-self-2
invariant_of-self-2 c =
    let part : PartState = c.self.inside.part in
    let touch : Touch part c.args.part.now = rw (← c.self.view_is) at c.requires.touch in
    let same : part.width ≡ c.args.part.now.width = rw (← c.self.view_is) at c.requires.width in
    let more = rw (← c.self.view_is) at c.requires.pending in
    grown part c.args.part.now _ _ _ _ _ c.self.invariant c.in_ok-meld_from.ensures.after
    (joined part c.args.part.now _ c.self.invariant.rules c.in_ok-meld_from.ensures.other touch same c.in_ok-meld_from.ensures.melded) more

pub returns-clause-after : goal.returns-clause-after
returns-clause-after c = invariant_of-self-2 c
