use Rattle.hlr_workers.proofs.Common.{◌≡◌}
use Rattle.hlr_workers.proofs.workers.offer_until.Given as goal

abbrev pub invariant-loop : goal.invariant-loop
invariant-loop g l = l.by_part.items ≡ l.initial.by_part.items
