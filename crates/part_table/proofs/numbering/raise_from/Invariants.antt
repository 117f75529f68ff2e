use Rattle.part_table.proofs.Common.{◌≡◌, ◌<◌, drop, AllByRecursion, parts_of}
use Rattle.part_table.proofs.BehindLemmas.{anew_from}
use Rattle.part_table.proofs.RenumberLemmas.{region_raised}
use Rattle.part_table.proofs.numbering.raise_from.Given as goal

abbrev pub invariant-loop-i : goal.invariant-loop-i
invariant-loop-i l = record {
  so_far : anew_from region_raised l.i l.regions ≡ anew_from region_raised l.from l.fn.regions;
  can_rise : AllByRecursion (λ p. p < 255) (parts_of (drop l.i l.regions));
}
