use Rattle.part_table.proofs.Common.{◌≡◌, ◌≤◌, drop, AllByRecursion, parts_of}
use Rattle.part_table.proofs.BehindLemmas.{anew_from}
use Rattle.part_table.proofs.RenumberLemmas.{region_lowered}
use Rattle.part_table.proofs.numbering.lower_from.Given as goal

abbrev pub invariant-loop-i : goal.invariant-loop-i
invariant-loop-i l = record {
  so_far : anew_from region_lowered l.i l.regions ≡ anew_from region_lowered l.from l.fn.regions;
  can_fall : AllByRecursion (λ p. 1 ≤ p) (parts_of (drop l.i l.regions));
}
