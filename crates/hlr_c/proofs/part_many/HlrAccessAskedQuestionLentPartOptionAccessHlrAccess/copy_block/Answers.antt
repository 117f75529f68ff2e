use Rattle.hlr_c.proofs.Common.{◌∙◌, ℕ, ap, map, access_at, access_reply, IsOwnAccess, IsPartAccessRead, access_told, HlrAccessAsked}
use Rattle.hlr_c.proofs.OwnLemmas.{access_is, map_of_map, told_of_own}
use Rattle.hlr_c.proofs.part_many.HlrAccessAskedQuestionLentPartOptionAccessHlrAccess.copy_block.Goals as goal

pub returns : goal.returns
returns c = λ done.
    let part = c.args.of.now in
    let find = λ (a : ℕ × ℕ). access_at part.part.book a.0 a.1 in
    told_of_own (λ (q : HlrAccessAsked). access_at part.part.book q.s_id q.ai_type) IsPartAccessRead (λ q row o. access_told q.s_id q.ai_type row (access_reply o)) part c.args.asked.now c.copy_access.new.rows.items (λ q. IsOwnAccess q part)
    (c.copy_access.ensures ∙ ap (map find) (c.as_slice.ensures.value ∙ c.if-not-put_own_accesses.ensures.same done) ∙ map_of_map find (λ (q : HlrAccessAsked). (q.s_id, q.ai_type)) c.args.asked.now) (c.if-not-put_own_accesses.ensures.own done) (access_is part)
