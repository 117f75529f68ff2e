use Rattle.hlr_core.proofs.Common.{take_all}
use Rattle.hlr_core.proofs.ManyLemmas.{one_access_within, one_more_taken}
use Rattle.hlr_core.proofs.many.put_accesses.Goals as goal

pub loop-place-preserved : goal.loop-place-preserved
loop-place-preserved c = record {
  same = one_more_taken c.args.asked.now c.loop-place.place c.in-Ok.s_id c.in-Ok-byte_in_range.ai_type c.loop-place-test.true c.loop-place.accesses.items c.push.new.self.items c.loop-place.invariant.same c.push.ensures.items c.in-Ok.ensures c.in-Ok-byte_in_range.ensures;
  within = one_access_within c.args.asked.now c.loop-place.place c.in-Ok.s_id c.in-Ok-byte_in_range.ai_type c.loop-place-test.true c.loop-place.invariant.within c.in-Ok.ensures c.in-Ok-byte_in_range.ensures;
}

pub returns-clause-within : goal.returns-clause-within
returns-clause-within c = λ done. rw (take_all c.loop-place.place c.args.asked.now c.loop-place-test.false) at c.loop-place.invariant.within
