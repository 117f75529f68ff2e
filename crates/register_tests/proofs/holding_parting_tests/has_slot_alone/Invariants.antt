use Rattle.std.proofs.Common.{◌≡◌, ℕ, ◌<◌}
use Rattle.view_board.specs.Views.{Owns}
use Rattle.register_tests.proofs.holding_parting_tests.has_slot_alone.Given as goal

abbrev pub invariant-loop-other : goal.invariant-loop-other
invariant-loop-other l = (other : ℕ) → other < l.other → Owns l.holding.desk.view other → other ≡ l.slot
