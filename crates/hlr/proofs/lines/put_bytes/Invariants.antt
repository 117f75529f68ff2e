use Rattle.hlr.proofs.Common.{◌≡◌, ◌++◌, ◌+◌, ◌*◌, length, drop, bytes_text}
use Rattle.hlr.proofs.lines.put_bytes.Given as goal

abbrev pub invariant-loop-at : goal.invariant-loop-at
invariant-loop-at l = record {
  bytes : l.line.items ++ bytes_text (drop l.at l.bytes) ≡ l.fn.line.items ++ bytes_text l.bytes;
  len : length l.line.items ≡ length l.fn.line.items + 2 * l.at;
}
