use Rattle.hlr.proofs.JournaledFacts.{event_joins}
use Rattle.hlr.proofs.journaled.answer_event.Goals as goal

pub returns-in-Ok-clause-joins : goal.returns-in-Ok-clause-joins
returns-in-Ok-clause-joins g c = λ fields.
    event_joins _ _ fields _ _ _ _ _ _ c.in-Ok.ensures.step c.in-Ok.ensures.ahead c.apply.ensures.tape c.build_reply.ensures
