use Rattle.part_table.proofs.Common.{◌≡◌, drop, are_rising}
use Rattle.part_table.proofs.bounds.are_rising.Given as goal

abbrev pub invariant-loop-bound : goal.invariant-loop-bound
invariant-loop-bound l = are_rising 1 l.bounds ≡ are_rising l.below (drop l.bound-index l.bounds)
