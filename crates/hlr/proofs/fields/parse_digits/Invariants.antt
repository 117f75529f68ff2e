use Rattle.hlr.proofs.FieldFacts.{AreReadTo}
use Rattle.hlr.proofs.fields.parse_digits.Given as goal

abbrev pub invariant-loop-i : goal.invariant-loop-i
invariant-loop-i g l = AreReadTo l.limit l.text l.i l.digits
