use Rattle.hlr_workers.proofs.Common.{◌≡◌, None, replicate}
use Rattle.hlr_workers.proofs.workers.Workers.of.Given as goal

abbrev pub invariant-loop : goal.invariant-loop
invariant-loop l = (l.by_part.items ≡ replicate l.counter None) × (l.register ≡ l.initial.register)
