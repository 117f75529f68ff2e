use Rattle.part_table.proofs.Common.{◌≡◌, ◌+◌, ◌++◌, length}
use Rattle.part_table.proofs.OpeningLemmas.{all_parts, parts_left}
use Rattle.part_table.proofs.regions.Regions.opening.Given as goal

abbrev pub invariant-loop-p : goal.invariant-loop-p
invariant-loop-p l = record {
  so_far : l.list.items ++ parts_left l.parts l.width l.p l.lo ≡ all_parts l.parts l.width;
  count : length l.list.items + 1 ≡ l.p;
}
