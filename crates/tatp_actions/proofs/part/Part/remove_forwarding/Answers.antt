use Rattle.tatp_actions.proofs.Common.{forwarding_key}
use Rattle.tatp_actions.proofs.StoredLemmas.{found_in}
use Rattle.tatp_actions.proofs.KeyedLemmas.{removed_is, removed_holds}
use Rattle.tatp_actions.proofs.part.Part.remove_forwarding.Goals as goal

pub invariant_of-self : goal.invariant_of-self
invariant_of-self g c = removed_holds _ _ _ _ _ _ _ _ _ c.args.s_id c.args.sf_type c.args.start_time c.row_key.ensures c.self.invariant c.remove_c.ensures.rows

pub returns-clause-found : goal.returns-clause-found
returns-clause-found g c = rw (← c.self.view_is) (found_in forwarding_key _ _ _ _ c.self.invariant.1.forwardings c.row_key.ensures c.remove_c.ensures.value)

pub returns-clause-kept : goal.returns-clause-kept
returns-clause-kept g c = rw (← c.self.view_is) (removed_is _ _ _ _ _ _ _ _ _ c.args.s_id c.args.sf_type c.args.start_time c.row_key.ensures c.self.invariant c.remove_c.ensures.rows c.remove_c.ensures.asked)
