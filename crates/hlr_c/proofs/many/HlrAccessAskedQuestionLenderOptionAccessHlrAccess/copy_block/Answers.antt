use Rattle.hlr_c.proofs.Common.{◌∙◌, ℕ, refl, access_reply, access_told, AWAY, HlrAccessAsked}
use Rattle.hlr_core.specs.declared.event.Event.TheVariants as event
use Rattle.hlr_c.proofs.FoundLemmas.{found_of, told_of_found}
use Rattle.hlr_c.proofs.many.HlrAccessAskedQuestionLenderOptionAccessHlrAccess.copy_block.Goals as goal

pub returns : goal.returns
returns c = λ done.
    told_of_found (λ (q : HlrAccessAsked). event.AccessData q.s_id q.ai_type) access_reply (λ q. access_told q.s_id q.ai_type) (λ row. (AWAY, row)) c.args.of.now c.args.asked.now c.copy_access.new.rows.items (λ q one. record { homes = refl; outs = refl; spare = refl }) (c.is_all_home.ensures.0 c.if-not-is_all_home.false)
    (found_of (λ (a : ℕ × ℕ). event.AccessData a.0 a.1) access_reply c.args.of.now (λ (q : HlrAccessAsked). (q.s_id, q.ai_type)) (0, 0) c.args.asked.now c.copy_access.new.rows.items
    (rw (c.register.ensures.value, c.as_slice.ensures.value ∙ c.put_pairs.ensures) at (c.copy_access.ensures.found done)))
