use Rattle.hlr.proofs.RunFacts.{if_known, ran_from, ran_refused}
use Rattle.hlr.proofs.run.run_alone.Goals as goal

pub returns-in-Ok-clause-text : goal.returns-in-Ok-clause-text
returns-in-Ok-clause-text g c = ran_from _ _ _ _ _ _ c.in-Ok.ensures.ok c.run_store-done.ensures.text

pub returns-in-Err-clause-text : goal.returns-in-Err-clause-text
returns-in-Err-clause-text g c = if_known _ _ (λ bytes is. ran_refused _ _ _ _ c.refuse_start.result c.refuse_start.ensures.fault c.refuse_start.ensures.thread c.refuse_start.ensures.bytes)
