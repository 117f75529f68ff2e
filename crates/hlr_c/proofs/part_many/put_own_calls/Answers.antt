use Rattle.hlr_c.proofs.Common.{◌∙◌, sym, IsOwnCall, HlrDestinationAsked}
use Rattle.hlr_c.proofs.OwnLemmas.{one_more_owned, one_more_put}
use Rattle.hlr_c.proofs.part_many.put_own_calls.Goals as goal

pub loop-place-preserved : goal.loop-place-preserved
loop-place-preserved c = record {
  same = one_more_put c.args.asked.now c.loop-place.place (record { s_id = 0; sf_type = 0; start_time = 0; end_time = 0 }) c.loop-place-test.true (λ (q : HlrDestinationAsked). (q.s_id, q.sf_type, q.start_time, q.end_time)) c.loop-place.own.items c.push.new.self.items c.loop-place.invariant.same c.push.ensures.items;
  own = one_more_owned c.args.asked.now c.loop-place.place (record { s_id = 0; sf_type = 0; start_time = 0; end_time = 0 }) c.loop-place-test.true (λ q. IsOwnCall q c.args.part.now) c.loop-place.invariant.own (sym c.is_call.ensures ∙ c.if-not-is_call.false, sym c.has.ensures ∙ c.if-not-has.false);
}
