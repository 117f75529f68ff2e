use Rattle.hlr.proofs.Common.{refl, sym, ◌∙◌, arith}
use Rattle.hlr.proofs.FieldFacts.{refused_empty, refused_byte, other_above, short_none, short_more, short_fits, short_whole}
use Rattle.hlr.proofs.fields.parse_number.Goals as goal

pub returns-then-is_empty : goal.returns-then-is_empty
returns-then-is_empty c = refused_empty _ (sym c.is_empty.ensures ∙ c.if-is_empty.true)

pub returns-then-digit-gt9 : goal.returns-then-digit-gt9
returns-then-digit-gt9 c =
    refused_byte _ _ c.loop-byte-test.true (other_above _ _ (c.type_inv.text c.loop-byte.byte-index).fits refl (omega arith))

pub overflow_mul-value : goal.overflow_mul-value
overflow_mul-value c = let room = short_fits _ _ _ c.loop-byte.invariant c.loop-byte-test.true (omega arith) in omega arith

pub overflow_add-value : goal.overflow_add-value
overflow_add-value c = let room = short_fits _ _ _ c.loop-byte.invariant c.loop-byte-test.true (omega arith) in omega arith

pub loop-byte-init : goal.loop-byte-init
loop-byte-init c = short_none _

pub loop-byte-preserved : goal.loop-byte-preserved
loop-byte-preserved c =
    short_more _ _ _ _ c.loop-byte.invariant c.loop-byte-test.true (c.type_inv.text c.loop-byte.byte-index).fits c.from.ensures (let value = c.from.ensures in omega arith)

pub returns : goal.returns
returns c = short_whole _ _ _ (sym c.is_empty.ensures ∙ c.if-is_empty.false) c.loop-byte-test.false (omega arith) c.loop-byte.invariant
