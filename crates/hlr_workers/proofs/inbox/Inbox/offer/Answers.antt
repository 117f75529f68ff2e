use Rattle.hlr_workers.proofs.Common.{ap, Log}
use Rattle.hlr_workers.proofs.RelayLemmas.{sends}
use Rattle.hlr_workers.proofs.inbox.Inbox.offer.Goals as goal

pub try_push_as-requires-clause-rule : goal.try_push_as-requires-clause-rule
try_push_as-requires-clause-rule c = sends _ _ _ _ (ap (λ (v : Log). v.pushes) c.requires.sends) c.requires.right
