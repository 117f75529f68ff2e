use Rattle.hlr_c.proofs.JournaledLemmas.{lent_journaled, recut_journaled}
use Rattle.hlr_c.proofs.parts.hlr_recut.Goals as goal

pub put-requires-clause-journaled : goal.put-requires-clause-journaled
put-requires-clause-journaled c =
    recut_journaled _ _ _ _ _ _ _ c.recut-answer.ensures
    (lent_journaled c.deref_mut.result.now c.in-Some.opened.value c.deref_mut.ensures.value c.in-Some.ensures.journaled)
