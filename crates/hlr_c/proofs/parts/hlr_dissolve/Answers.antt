use Rattle.hlr_c.proofs.Common.{Ok, refl}
use Rattle.hlr_c.proofs.JournaledLemmas.{lent_journaled, other_journaled}
use Rattle.hlr_core.specs.declared.event.Event.TheVariants.{Dissolve}
use Rattle.hlr_c.proofs.parts.hlr_dissolve.Goals as goal

pub put-requires-clause-journaled : goal.put-requires-clause-journaled
put-requires-clause-journaled c =
    other_journaled (Ok (Dissolve c.args.part)) _ _ _ _ _ _ refl c.dissolve-answer.ensures
    (lent_journaled c.deref_mut.result.now c.in-Some.opened.value c.deref_mut.ensures.value c.in-Some.ensures.journaled)
