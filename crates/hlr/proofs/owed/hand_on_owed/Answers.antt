use Rattle.hlr.proofs.OwedFacts.{owed_handed}
use Rattle.hlr.proofs.owed.hand_on_owed.Goals as goal

pub returns-clause-text : goal.returns-clause-text
returns-clause-text g c = owed_handed _ _ _ _ _ _ c.hand_on.result c.in_ok-write_owed.ensures.text c.hand_on.ensures.text
