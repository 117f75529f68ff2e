use Rattle.tatp_actions.proofs.Common.{access_key}
use Rattle.tatp_actions.proofs.StoredLemmas.{found_in}
use Rattle.tatp_actions.proofs.lending.Part.lend_access.Goals as goal

pub returns : goal.returns
returns c = rw (← c.self.view_is) (found_in access_key _ _ _ _ c.self.invariant.1.access c.row_key.ensures c.get_by_guess.ensures)
