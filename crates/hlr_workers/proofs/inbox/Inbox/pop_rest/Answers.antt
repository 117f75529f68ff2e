use Rattle.hlr_workers.proofs.Common.{ap, Log}
use Rattle.hlr_workers.proofs.RelayLemmas.{gets, totals}
use Rattle.hlr_workers.proofs.inbox.Inbox.pop_rest.Goals as goal

pub pop_as-requires-clause-rule : goal.pop_as-requires-clause-rule
pop_as-requires-clause-rule g c =
    let both = c.requires.both in
    (gets _ _ (ap (λ (v : Log). v.pops) both), totals _ _ (ap (λ (v : Log). v.pushes) both) (ap (λ (v : Log). v.pops) both))
