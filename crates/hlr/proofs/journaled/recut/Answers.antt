use Rattle.hlr.proofs.Common.{sym}
use Rattle.hlr.proofs.JournaledFacts.{recut_done, recut_joins, recut_refused}
use Rattle.hlr.proofs.journaled.recut.Goals as goal

pub returns-in-Ok-clause-joins : goal.returns-in-Ok-clause-joins
returns-in-Ok-clause-joins g c =
    recut_joins _ _ _ _ _ _ _ _ c.in-Ok.ensures
    (recut_done _ _ _ _ _ _ _ _ (rw c.as_slice.ensures.value at c.recut_to.ensures.recut) c.recut_to.ensures.tape c.recut_to.ensures.group c.recut_to.ensures.fault c.build_recut.ensures)

pub returns-in-Err-clause-joins : goal.returns-in-Err-clause-joins
returns-in-Err-clause-joins g c = recut_joins _ _ _ _ _ _ _ _ c.in-Err.ensures (recut_refused _ _ _ _ _ _ c.build_refused.ensures)
