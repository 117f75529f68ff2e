use Rattle.hlr_c.proofs.JournaledLemmas.{back_journaled, lent_journaled}
use Rattle.hlr_c.proofs.lending.hlr_back.Goals as goal

pub put-requires-clause-journaled : goal.put-requires-clause-journaled
put-requires-clause-journaled c =
    back_journaled c.args.part c.back-answer.result _ _ _ c.back-answer.ensures
    (lent_journaled c.deref_mut.result.now c.in-Some.opened.value c.deref_mut.ensures.value c.in-Some.ensures.journaled)
