use Rattle.hlr.proofs.Common.{ap, store_in}
use Rattle.hlr.proofs.OwedFacts.{opened_at_rest}
use Rattle.hlr.proofs.RunFacts.{if_known, ran_from, ran_refused}
use Rattle.hlr.proofs.run.run_threads.Goals as goal

pub run_engine-done-requires-clause-rest : goal.run_engine-done-requires-clause-rest
run_engine-done-requires-clause-rest g c = λ lives outlive. opened_at_rest c.new-engine.result c.args.register c.new-engine.ensures.register c.new-engine.ensures.replies c.new-engine.ensures.stands

pub returns-in-Ok-clause-text : goal.returns-in-Ok-clause-text
returns-in-Ok-clause-text g c = ran_from _ _ _ _ _ _ (ap store_in c.new-engine.ensures.register) c.run_engine-done.ensures.text

pub returns-in-Err-clause-text : goal.returns-in-Err-clause-text
returns-in-Err-clause-text g c = if_known _ _ (λ bytes is. ran_refused _ _ _ _ c.refuse_start.result c.refuse_start.ensures.fault c.refuse_start.ensures.thread c.refuse_start.ensures.bytes)
