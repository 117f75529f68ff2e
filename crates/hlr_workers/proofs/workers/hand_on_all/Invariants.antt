use Rattle.hlr_workers.proofs.Common.{◌≡◌}
use Rattle.hlr_workers.proofs.workers.hand_on_all.Given as goal

abbrev pub invariant-loop-part : goal.invariant-loop-part
invariant-loop-part g l = l.by_part.items ≡ l.initial.by_part.items
