use Rattle.std.proofs.Common.{◌≡◌, ℕ, ◌<◌}
use Rattle.std.specs.Prelude.{pos, slice_index_or}
use Rattle.view_board.specs.Views.{Owns}
use Rattle.register_tests.proofs.holding_parting_tests.is_blank.Given as goal

abbrev pub invariant-loop-other : goal.invariant-loop-other
invariant-loop-other l = (other : ℕ) → other < l.other → Owns l.desk.view other → other ≡ l.slot

abbrev pub invariant-loop-cell : goal.invariant-loop-cell
invariant-loop-cell l = (c : ℕ) → c < l.cell → slice_index_or l.nets c (pos 0) ≡ pos 0
