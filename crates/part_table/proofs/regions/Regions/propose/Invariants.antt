use Rattle.part_table.proofs.Common.{◌≡◌, ◌-◌, map, range_with_len, bound_zone, proposed_bound}
use Rattle.part_table.proofs.regions.Regions.propose.Given as goal

abbrev pub invariant-loop-i : goal.invariant-loop-i
invariant-loop-i l = record {
  list : l.list.items ≡ map (proposed_bound l.weights l.parts l.width) (range_with_len 1 (l.i - 1));
  zone : l.zone ≡ bound_zone l.weights l.parts (l.i - 1);
}
