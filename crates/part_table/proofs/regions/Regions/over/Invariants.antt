use Rattle.part_table.proofs.Common.{◌≡◌, ◌+◌, ◌++◌, drop, length, numbered, do_follow, parts_of, pieces_of}
use Rattle.part_table.proofs.regions.Regions.over.Given as goal

abbrev pub invariant-loop-range : goal.invariant-loop-range
invariant-loop-range l = record {
  list : l.list.items ++ numbered l.next.part l.next.piece (drop l.range-index l.ranges) ≡ numbered 0 1 l.ranges;
  long : length l.list.items ≡ l.range-index;
  follow : do_follow l.from (drop l.range-index l.ranges) ≡ do_follow 1 l.ranges;
  parts : l.next.part + length (parts_of (drop l.range-index l.ranges)) ≡ length (parts_of l.ranges);
  pieces : l.next.piece + length (pieces_of (drop l.range-index l.ranges)) ≡ 1 + length (pieces_of l.ranges);
}
