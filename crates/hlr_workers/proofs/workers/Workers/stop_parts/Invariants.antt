use Rattle.hlr_workers.proofs.Common.{◌≡◌}
use Rattle.hlr_workers.proofs.workers.Workers.stop_parts.Given as goal

abbrev pub invariant-loop-part : goal.invariant-loop-part
invariant-loop-part g l = l.self ≡ l.initial.self
