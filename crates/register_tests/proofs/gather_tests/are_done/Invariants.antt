use Rattle.std.proofs.Common.{◌≡◌}
use Rattle.register_tests.proofs.gather_tests.are_done.Given as goal

abbrev pub invariant-loop-action : goal.invariant-loop-action
invariant-loop-action l = l.holding.desk ≡ l.initial.holding.desk
