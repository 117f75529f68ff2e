use Rattle.hlr_workers.proofs.Common.{◌∙◌, ap, Log}
use Rattle.hlr_workers.proofs.RelayLemmas.{gets}
use Rattle.hlr_workers.proofs.inbox.Inbox.next.Goals as goal

pub try_pop_as-requires-clause-rule : goal.try_pop_as-requires-clause-rule
try_pop_as-requires-clause-rule g c = gets _ _ (ap (λ (v : Log). v.pops) (c.loop.invariant.1 ∙ c.requires.gets))
