use Rattle.tatp_actions.proofs.Common.{access_key}
use Rattle.tatp_actions.proofs.StoredLemmas.{found_in}
use Rattle.tatp_actions.proofs.part.Part.access.Goals as goal

pub returns-clause-found : goal.returns-clause-found
returns-clause-found g c =
    rw (← c.self.view_is) (found_in access_key _ _ _ _ c.self.invariant.1.access c.row_key.ensures c.get_a.ensures.value)
