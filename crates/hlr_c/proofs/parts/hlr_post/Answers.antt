use Rattle.hlr_c.proofs.Common.{Ok, refl}
use Rattle.hlr_c.proofs.JournaledLemmas.{lent_journaled, other_journaled}
use Rattle.hlr_core.specs.declared.event.Event.TheVariants.{Post}
use Rattle.hlr_c.proofs.parts.hlr_post.Goals as goal

pub put-requires-clause-journaled : goal.put-requires-clause-journaled
put-requires-clause-journaled c =
    other_journaled (Ok (Post c.args.part c.args.limit)) _ _ _ _ _ _ refl c.post-answer.ensures
    (lent_journaled c.deref_mut.result.now c.in-Some.opened.value c.deref_mut.ensures.value c.in-Some.ensures.journaled)
