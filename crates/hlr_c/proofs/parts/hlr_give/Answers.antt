use Rattle.hlr_c.proofs.JournaledLemmas.{give_other, lent_journaled, other_journaled}
use Rattle.hlr_c.specs.Asked.{give_asked, side_of}
use Rattle.hlr_c.proofs.parts.hlr_give.Goals as goal

pub put-requires-clause-journaled : goal.put-requires-clause-journaled
put-requires-clause-journaled c =
    other_journaled (give_asked c.args.part c.args.side c.args.at) _ _ _ _ _ _ (give_other c.args.part c.args.at (side_of c.args.side)) c.give-answer.ensures
    (lent_journaled c.deref_mut.result.now c.in-Some.opened.value c.deref_mut.ensures.value c.in-Some.ensures.journaled)
