use Rattle.hlr.proofs.Common.{arith, rules}
use Rattle.hlr.proofs.SinkFacts.{left_front, left_kept, left_on, or_false_left}
use Rattle.hlr.proofs.sink.put_all.Goals as goal

pub returns-in-Ok-eq0-clause-put : goal.returns-in-Ok-eq0-clause-put
returns-in-Ok-eq0-clause-put g c = (left_front _ _ _ _ (left_on _ _ _ _ _ _ c.loop-rest.invariant.left c.in-Ok-eq0.ensures.bytes), search rules)

pub returns-in-Err-clause-put : goal.returns-in-Err-clause-put
returns-in-Err-clause-put g c = (left_front _ _ _ _ (left_kept _ _ _ _ _ c.loop-rest.invariant.left c.in-Err.ensures.bytes), search rules)

pub returns-in-Err-2-clause-put : goal.returns-in-Err-2-clause-put
returns-in-Err-2-clause-put g c = (left_front _ _ _ _ (left_kept _ _ _ _ _ c.loop-rest.invariant.left c.in-Err.ensures.bytes), search rules)

pub loop-rest-preserved-in-Ok : goal.loop-rest-preserved-in-Ok
loop-rest-preserved-in-Ok g c = record {
  few = omega arith;
  left = left_on _ _ _ _ _ _ c.loop-rest.invariant.left c.in-Ok.ensures.bytes;
  quiet = λ still. c.loop-rest.invariant.quiet (or_false_left _ _ _ c.in-Ok.ensures.told still);
}
