use Rattle.hlr_core.proofs.Common.{take_all}
use Rattle.hlr_core.proofs.ManyLemmas.{one_call_within, one_more_call, one_more_id}
use Rattle.hlr_core.proofs.many.put_calls.Goals as goal

pub loop-place-preserved : goal.loop-place-preserved
loop-place-preserved c =
    let call = c.in-Ok.call in
    let (is, fits) = c.in-Ok.ensures.ok in
    record {
      same = one_more_call c.args.asked.now c.loop-place.place call c.loop-place-test.true is c.loop-place.calls.items c.push.new.self.items c.loop-place.invariant.same c.push.ensures.items;
      ids = one_more_id c.args.asked.now c.loop-place.place call c.loop-place-test.true is c.loop-place.s_ids.items c.push-in-loop-place.new.self.items c.loop-place.invariant.ids c.push-in-loop-place.ensures.items;
      within = one_call_within c.args.asked.now c.loop-place.place call c.loop-place-test.true is fits c.loop-place.invariant.within;
    }

pub returns-clause-within : goal.returns-clause-within
returns-clause-within c = λ done. rw (take_all c.loop-place.place c.args.asked.now c.loop-place-test.false) at c.loop-place.invariant.within
