use Rattle.part_table.proofs.Common.{◌≡◌, ◌++◌, bounds_of, falling_moves}
use Rattle.part_table.proofs.MoveLemmas.{falling_left}
use Rattle.part_table.proofs.recut.falling_moves.Given as goal

abbrev pub invariant-loop-i : goal.invariant-loop-i
invariant-loop-i l =
    l.moves.items ++ falling_left l.i (bounds_of l.regions) l.bounds ≡ falling_moves 1 (bounds_of l.regions) l.bounds
