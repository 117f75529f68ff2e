use Rattle.hlr.proofs.Common.{◌≡◌, ◌≤◌, ◌+◌, ◌*◌, ◌++◌, length, drop, flat_map, number_line}
use Rattle.hlr.proofs.reports.build_page.Given as goal

abbrev pub invariant-loop-at : goal.invariant-loop-at
invariant-loop-at l = record {
  lines : l.line.items ++ flat_map number_line (drop l.at l.pairs) ≡ l.fn.line.items ++ flat_map number_line l.pairs;
  room : length l.line.items ≤ length l.fn.line.items + 70 * l.at;
}
