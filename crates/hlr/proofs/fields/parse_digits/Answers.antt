use Rattle.hlr.proofs.Common.{sym, ◌∙◌, arith, length-replicate}
use Rattle.hlr.proofs.FieldFacts.{none_read, one_read, all_read, refused_digit, refused_length}
use Rattle.hlr.proofs.fields.parse_digits.Goals as goal

pub returns-then-text : goal.returns-then-text
returns-then-text g c = refused_length _ _ _ c.if-text.true

pub returns-then-digit-limit : goal.returns-then-digit-limit
returns-then-digit-limit g c = refused_digit _ _ _ _ c.loop-i-test.true (let value = c.digit_value-digit.ensures in let large = c.if-digit-limit.true in omega arith)

pub loop-i-init : goal.loop-i-init
loop-i-init g c = none_read _ _ _ (length-replicate _ _ ∙ sym c.if-text.false)

pub loop-i-preserved : goal.loop-i-preserved
loop-i-preserved g c = one_read _ _ _ _ _ c.loop-i.invariant c.loop-i-test.true c.digit_value-digit.ensures c.if-digit-limit.false

pub returns : goal.returns
returns g c = all_read _ _ _ _ _ c.if-text.false c.loop-i-test.false c.loop-i.invariant
