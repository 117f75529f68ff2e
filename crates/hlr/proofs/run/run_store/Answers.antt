use Rattle.hlr.proofs.Common.{Err}
use Rattle.hlr.specs.declared.fault.Fault.TheVariants as fault
use Rattle.hlr.proofs.RunFacts.{if_known, keeps_same, ran_finished, ran_flushed, ran_nothing}
use Rattle.hlr.proofs.run.run_store.Goals as goal

pub returns-in_default-clause-text : goal.returns-in_default-clause-text
returns-in_default-clause-text g c =
    if_known _ _ (λ bytes is.
    ran_finished _ _ _ _ _ (Err fault.Memory) _ (ran_nothing _ _ _ _ fault.Memory (λ is. cc) (keeps_same _)) c.finish.ensures.bytes c.finish.ensures.answer)

pub returns-clause-text : goal.returns-clause-text
returns-clause-text g c = ran_flushed _ _ _ _ _ _ _ _ _ _ _ c.in-Ok.ensures.source c.answer_all-done.ensures.text c.finish-2.ensures.bytes c.finish-2.ensures.answer
