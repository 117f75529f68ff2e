use Rattle.hlr_core.proofs.LaterLemmas.{back_later, registered_later}
use Rattle.hlr_core.proofs.register.Register.back.Goals as goal

pub back-requires : goal.back-requires
back-requires c = let given = rw (← c.self.view_is) at c.requires in (given.0, given.1.0)

pub invariant_of-self : goal.invariant_of-self
invariant_of-self c =
    let given = rw (← c.self.view_is) at c.requires in
    rw (c.back.ensures given.0 given.1.0)
    (registered_later _ _ _ c.rules-2.ensures.ruled (back_later _ given.0 _ given.1 (rw c.deref.ensures at c.rules.ensures)) c.self.invariant)

pub returns : goal.returns
returns c = λ i fits. rw (← c.self.view_is) (c.back.ensures i (rw (← c.self.view_is) at fits).0)
