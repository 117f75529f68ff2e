use Rattle.hlr.proofs.OwedFacts.{owed_handed}
use Rattle.hlr.proofs.owed.flush_owed.Goals as goal

pub returns-clause-text : goal.returns-clause-text
returns-clause-text g c = owed_handed _ _ _ _ _ _ c.flush_line.result c.in_ok-write_owed.ensures.text c.flush_line.ensures.text
