use Rattle.holding.proofs.HeldLemmas.{own_net}
use Rattle.holding.proofs.holding.Holding.add_nets.Goals as goal

pub add_slot_nets-requires-clause-small : goal.add_slot_nets-requires-clause-small
add_slot_nets-requires-clause-small c = λ k below.
    rw (← own_net (record { part = c.self.inside.part; pending = c.self.inside.pending; desk = c.self.inside.desk; slot = c.self.inside.slot }) c.self.invariant (rw (← c.self.view_is) at c.requires.alone) k) (c.self.invariant.small k below)

pub returns : goal.returns
returns c = λ k below.
    rw (← c.self.view_is)
    (rw (own_net (record { part = c.self.inside.part; pending = c.self.inside.pending; desk = c.self.inside.desk; slot = c.self.inside.slot }) c.self.invariant (rw (← c.self.view_is) at c.requires.alone) k) (c.add_slot_nets.ensures k below))
