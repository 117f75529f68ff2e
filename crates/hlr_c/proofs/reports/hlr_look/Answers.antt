use Rattle.hlr_c.proofs.JournaledLemmas.{lent_journaled, look_journaled}
use Rattle.hlr_c.proofs.reports.hlr_look.Goals as goal

pub put-requires-clause-journaled : goal.put-requires-clause-journaled
put-requires-clause-journaled c =
    look_journaled _ _ _ _ c.look-answer.ensures
    (lent_journaled c.deref_mut.result.now c.in-Some.opened.value c.deref_mut.ensures.value c.in-Some.ensures.journaled)
