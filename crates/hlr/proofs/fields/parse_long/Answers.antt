use Rattle.hlr.proofs.Common.{sym, ◌∙◌, arith, digits_more}
use Rattle.hlr.proofs.FieldFacts.{read_whole, refused_byte, refused_value}
use Rattle.hlr.proofs.fields.parse_long.Goals as goal

pub returns-then-not-is_ascii_digit : goal.returns-then-not-is_ascii_digit
returns-then-not-is_ascii_digit c = refused_byte _ _ c.loop-byte-test.true (sym c.is_ascii_digit.ensures.value ∙ c.if-not-is_ascii_digit.true)

pub returns-then-value-digit : goal.returns-then-value-digit
returns-then-value-digit c =
    refused_value _ _ _ _ c.loop-byte.invariant c.loop-byte-test.true (sym c.is_ascii_digit.ensures.value ∙ c.if-not-is_ascii_digit.false) c.from-digit.ensures (omega arith)

pub loop-byte-preserved : goal.loop-byte-preserved
loop-byte-preserved c =
    digits_more _ _ _ _ c.loop-byte.invariant c.loop-byte-test.true (sym c.is_ascii_digit.ensures.value ∙ c.if-not-is_ascii_digit.false) c.from-digit.ensures

pub returns : goal.returns
returns c =
    read_whole _ _ _ c.requires c.loop-byte-test.false c.loop-byte.invariant (omega arith)
