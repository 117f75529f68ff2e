use Rattle.part_table.proofs.Common.{◌≡◌, ◌≤◌, bounds_of}
use Rattle.part_table.proofs.MoveLemmas.{rising_left}
use Rattle.part_table.proofs.recut.rising_moves.Given as goal

abbrev pub invariant-loop-i : goal.invariant-loop-i
invariant-loop-i l = record {
  so_far : l.moves.items ≡ rising_left l.i (bounds_of l.regions) l.bounds;
  from : 1 ≤ l.i;
}
