use Rattle.hlr_c.proofs.Common.{◌∙◌, sym, IsOwnAccess, HlrAccessAsked}
use Rattle.hlr_c.proofs.OwnLemmas.{one_more_owned, one_more_put}
use Rattle.hlr_c.proofs.part_many.put_own_accesses.Goals as goal

pub loop-place-preserved : goal.loop-place-preserved
loop-place-preserved c = record {
  same = one_more_put c.args.asked.now c.loop-place.place (record { s_id = 0; ai_type = 0 }) c.loop-place-test.true (λ (a : HlrAccessAsked). (a.s_id, a.ai_type)) c.loop-place.own.items c.push.new.self.items c.loop-place.invariant.same c.push.ensures.items;
  own = one_more_owned c.args.asked.now c.loop-place.place (record { s_id = 0; ai_type = 0 }) c.loop-place-test.true (λ a. IsOwnAccess a c.args.part.now) c.loop-place.invariant.own (sym c.is_typed.ensures ∙ c.if-not-is_typed.false, sym c.has.ensures ∙ c.if-not-has.false);
}
