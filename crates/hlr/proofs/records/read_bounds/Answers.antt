use Rattle.hlr.proofs.Common.{ap, ◌∙◌, arith, nat_tests, err_from_is_err_and, number_field}
use Rattle.hlr.proofs.RecordFacts.{one_from, all_from, refused_from, many_from}
use Rattle.hlr.proofs.records.read_bounds.Goals as goal

pub returns-in_err-bound : goal.returns-in_err-bound
returns-in_err-bound c =
    let passed = err_from_is_err_and c.from_residual.result c.from_residual.ensures.1 in
    let size = c.len-i-end.ensures in
    rw (passed.1, passed.2)
    (refused_from _ _ _ _ c.loop-i.invariant.read (omega arith) (c.in_err-bound.ensures ∙ ap number_field c.field.ensures))

pub returns-then-is_full : goal.returns-then-is_full
returns-then-is_full c =
    let size = c.len-i-end.ensures in
    many_from _ _ _ c.loop-i.invariant.read (omega arith) (grind (arith, nat_tests))

pub loop-i-preserved : goal.loop-i-preserved
loop-i-preserved c =
    let size = c.len-i-end.ensures in
    record {
      few = grind (arith, nat_tests);
      read = rw c.push.ensures.items (one_from _ _ _ _ c.loop-i.invariant.read (omega arith) (c.in_ok-bound.ensures ∙ ap number_field c.field.ensures));
    }

pub returns : goal.returns
returns c =
    let size = c.len-i-end.ensures in
    all_from _ _ _ c.loop-i.invariant.read (omega arith) c.loop-i.invariant.few
