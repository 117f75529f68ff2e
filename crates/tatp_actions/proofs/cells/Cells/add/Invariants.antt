use Rattle.tatp_actions.proofs.Common.{◌≡◌, ℕ, ◌+◌, ◌<◌, ◌≤◌, length, get_or, CELLS}
use Rattle.tatp_actions.proofs.cells.Cells.add.Given as goal

abbrev pub invariant-loop-cell : goal.invariant-loop-cell
invariant-loop-cell l = record {
  wide : length l.self-inside.counts ≡ CELLS;
  added : (k : ℕ) → k < l.cell → get_or l.self-inside.counts k 0 ≡ get_or l.initial.self-inside.counts k 0 + get_or l.counts-inside.counts k 0;
  ahead : (k : ℕ) → l.cell ≤ k → get_or l.self-inside.counts k 0 ≡ get_or l.initial.self-inside.counts k 0;
}
