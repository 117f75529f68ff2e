use Rattle.edit_lines.proofs.Common.{◌≡◌, ◌++◌, ◌+◌, ◌-◌, array_vec_len}
use Rattle.edit_lines.specs.Lines.{digits}
use Rattle.edit_lines.proofs.digits.put.Given as goal

abbrev pub invariant-loop : goal.invariant-loop
invariant-loop l = record {
  items : l.line.items ++ digits (l.count - l.counter) l.rest ≡ l.fn.line.items ++ digits l.count l.number;
  len : array_vec_len l.line ≡ array_vec_len l.fn.line + l.counter;
}
