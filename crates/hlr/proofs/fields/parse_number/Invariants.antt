use Rattle.hlr.proofs.FieldFacts.{IsReadTo}
use Rattle.hlr.proofs.fields.parse_number.Given as goal

abbrev pub invariant-loop-byte : goal.invariant-loop-byte
invariant-loop-byte l = IsReadTo l.text l.byte-index l.value
