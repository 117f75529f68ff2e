use Rattle.hlr.proofs.Common.{◌≡◌, ◌≤◌, ◌++◌, ◌+◌, ◌*◌, length, drop, numbers_text}
use Rattle.hlr.proofs.lines.put_numbers.Given as goal

abbrev pub invariant-loop-at : goal.invariant-loop-at
invariant-loop-at l = record {
  bytes : l.line.items ++ numbers_text (drop l.at l.numbers) ≡ l.fn.line.items ++ numbers_text l.numbers;
  len : length l.line.items ≤ length l.fn.line.items + 21 * l.at;
}
