use Rattle.hlr_c.proofs.Common.{◌∙◌, ℕ, refl, ArrayVec, numbers_reply, numbers_told, AWAY, HlrDestinationAsked}
use Rattle.hlr_core.specs.declared.event.Event.TheVariants as event
use Rattle.hlr_c.proofs.FoundLemmas.{found_of, told_of_found}
use Rattle.hlr_c.proofs.many.HlrDestinationAskedQuestionLenderArrayVecNumber3HlrNumbers.copy_block.Goals as goal

pub returns : goal.returns
returns c = λ done.
    let told = λ (ns : ArrayVec ℕ). numbers_reply ns.items in
    told_of_found (λ (q : HlrDestinationAsked). event.NewDestination q.s_id q.sf_type q.start_time q.end_time) told (λ q. numbers_told) (λ row. (AWAY, row)) c.args.of.now c.args.asked.now c.copy_destinations.new.numbers.items (λ q one. record { homes = refl; outs = refl; spare = refl }) (c.is_all_home.ensures.0 c.if-not-is_all_home.false)
    (found_of (λ (q : ℕ × ℕ × ℕ × ℕ). event.NewDestination q.0 q.1 q.2 q.3) told c.args.of.now (λ (q : HlrDestinationAsked). (q.s_id, q.sf_type, q.start_time, q.end_time)) (0, 0, 0, 0) c.args.asked.now c.copy_destinations.new.numbers.items
    (rw (c.register.ensures.value, c.as_slice.ensures.value ∙ c.put_calls.ensures) at (c.copy_destinations.ensures.found done)))
