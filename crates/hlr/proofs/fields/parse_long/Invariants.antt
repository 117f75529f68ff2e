use Rattle.hlr.proofs.Common.{AreDigits}
use Rattle.hlr.proofs.fields.parse_long.Given as goal

abbrev pub invariant-loop-byte : goal.invariant-loop-byte
invariant-loop-byte l = AreDigits l.text l.byte-index l.value
