use Rattle.tatp_actions.proofs.Common.{facility_key}
use Rattle.tatp_actions.proofs.StoredLemmas.{found_in}
use Rattle.tatp_actions.proofs.part.Part.facility.Goals as goal

pub returns-clause-found : goal.returns-clause-found
returns-clause-found g c =
    rw (← c.self.view_is) (found_in facility_key _ _ _ _ c.self.invariant.1.facilities c.row_key.ensures c.get_f.ensures.value)
