use Rattle.hlr_workers.proofs.Common.{◌≡◌}
use Rattle.hlr_workers.proofs.workers.Workers.stop_sides.Given as goal

abbrev pub invariant-loop-bound_move : goal.invariant-loop-bound_move
invariant-loop-bound_move g l = l.self ≡ l.initial.self
