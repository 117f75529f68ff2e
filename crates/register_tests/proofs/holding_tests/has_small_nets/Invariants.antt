use Rattle.std.proofs.Common.{ℕ, ◌<◌, ◌^◌}
use Rattle.std.specs.Prelude.{pos, neg_ℤ, ◌≤ℤ◌}
use Rattle.view_board.specs.Nets.{net_of}
use Rattle.register_tests.proofs.holding_tests.has_small_nets.Given as goal

abbrev pub invariant-loop-cell : goal.invariant-loop-cell
invariant-loop-cell l = (c : ℕ) → c < l.cell → (neg_ℤ (pos (2 ^ 40)) ≤ℤ net_of l.desk.view c) × (net_of l.desk.view c ≤ℤ pos (2 ^ 40))
