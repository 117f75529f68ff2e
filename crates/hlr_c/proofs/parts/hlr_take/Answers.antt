use Rattle.hlr_c.proofs.Common.{Ok, refl}
use Rattle.hlr_c.proofs.JournaledLemmas.{lent_journaled, other_journaled}
use Rattle.hlr_core.specs.declared.event.Event.TheVariants.{Take}
use Rattle.hlr_c.proofs.parts.hlr_take.Goals as goal

pub put-requires-clause-journaled : goal.put-requires-clause-journaled
put-requires-clause-journaled c =
    other_journaled (Ok (Take c.args.piece c.args.part)) _ _ _ _ _ _ refl c.take-answer.ensures
    (lent_journaled c.deref_mut.result.now c.in-Some.opened.value c.deref_mut.ensures.value c.in-Some.ensures.journaled)
