use Rattle.tatp_actions.proofs.Common.{forwarding_key}
use Rattle.tatp_actions.proofs.StoredLemmas.{found_in}
use Rattle.tatp_actions.proofs.lending.Part.lend_forwarding.Goals as goal

pub returns : goal.returns
returns c = rw (← c.self.view_is) (found_in forwarding_key _ _ _ _ c.self.invariant.1.forwardings c.row_key.ensures c.get.ensures)
