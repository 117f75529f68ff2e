use Rattle.holding.proofs.Common.{◌≡◌, ℕ, ◌<◌, length, pos, ◌+ℤ◌, CELLS, delta_at, count_of}
use Rattle.holding.proofs.parting.Holding.pending_with.Given as goal

abbrev pub invariant-loop-cell : goal.invariant-loop-cell
invariant-loop-cell l = record {
  wide : length l.deltas ≡ CELLS;
  told : (c : ℕ) → c < l.cell → delta_at l.deltas c ≡ delta_at l.self.pending c +ℤ pos (count_of l.other.part c);
}
