use Rattle.hlr.proofs.Common.{◌≡◌, ◌++◌, ◌+◌, length, drop, hexes_text}
use Rattle.hlr.proofs.lines.put_hexes.Given as goal

abbrev pub invariant-loop-at : goal.invariant-loop-at
invariant-loop-at l = record {
  bytes : l.line.items ++ hexes_text (drop l.at l.digits) ≡ l.fn.line.items ++ hexes_text l.digits;
  len : length l.line.items ≡ length l.fn.line.items + l.at;
}
