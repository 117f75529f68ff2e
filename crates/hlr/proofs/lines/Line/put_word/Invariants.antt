use Rattle.hlr.proofs.Common.{◌≡◌, ◌++◌, ◌+◌, length, drop}
use Rattle.hlr.proofs.lines.Line.put_word.Given as goal

abbrev pub invariant-loop-at : goal.invariant-loop-at
invariant-loop-at g l = record {
  bytes : l.self.items ++ drop l.at l.word ≡ l.fn.self.items ++ l.word;
  len : length l.self.items ≡ length l.fn.self.items + l.at;
}
