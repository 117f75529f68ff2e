use Rattle.hlr.proofs.Common.{◌≡◌, ◌≤◌, ◌++◌, ◌+◌, ◌*◌, length, drop, decimals_text}
use Rattle.hlr.proofs.lines.put_bounds.Given as goal

abbrev pub invariant-loop-at : goal.invariant-loop-at
invariant-loop-at l = record {
  bytes : l.line.items ++ decimals_text (drop l.at l.list) ≡ l.fn.line.items ++ decimals_text l.list;
  len : length l.line.items ≤ length l.fn.line.items + 21 * l.at;
}
