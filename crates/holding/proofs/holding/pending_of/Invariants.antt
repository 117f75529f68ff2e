use Rattle.holding.proofs.Common.{◌≡◌, ℕ, ◌<◌, length, pos, ◌-ℤ◌, slice_index, slice_index_or, CELLS, net_of}
use Rattle.holding.proofs.holding.pending_of.Given as goal

abbrev pub invariant-loop-cell : goal.invariant-loop-cell
invariant-loop-cell l = record {
  wide : length l.deltas ≡ CELLS;
  told : (c : ℕ) → c < l.cell → slice_index_or l.deltas c (pos 0) ≡ pos (slice_index l.counts c) -ℤ net_of l.desk.view c;
}
