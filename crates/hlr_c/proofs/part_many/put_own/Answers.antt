use Rattle.hlr_c.proofs.Common.{◌∙◌, sym, IsOwn}
use Rattle.hlr_c.proofs.OwnLemmas.{one_more_kept, one_more_owned}
use Rattle.hlr_c.proofs.part_many.put_own.Goals as goal

pub loop-place-preserved : goal.loop-place-preserved
loop-place-preserved c = record {
  same = one_more_kept c.args.s_ids.now c.loop-place.place 0 c.loop-place-test.true c.loop-place.own.items c.push.new.self.items c.loop-place.invariant.same c.push.ensures.items;
  own = one_more_owned c.args.s_ids.now c.loop-place.place 0 c.loop-place-test.true (λ s_id. IsOwn s_id c.args.part.now) c.loop-place.invariant.own (sym c.is_subscriber.ensures ∙ c.if-not-is_subscriber.false, sym c.has.ensures ∙ c.if-not-has.false);
}
