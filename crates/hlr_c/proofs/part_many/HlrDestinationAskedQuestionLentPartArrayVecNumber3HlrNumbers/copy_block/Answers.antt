use Rattle.hlr_c.proofs.Common.{◌∙◌, ℕ, ap, map, ArrayVec, destinations, numbers_reply, IsOwnCall, IsPartDestinationRead, numbers_told, HlrDestinationAsked}
use Rattle.hlr_c.proofs.OwnLemmas.{map_of_map, numbers_are, told_of_own}
use Rattle.hlr_c.proofs.part_many.HlrDestinationAskedQuestionLentPartArrayVecNumber3HlrNumbers.copy_block.Goals as goal

pub returns : goal.returns
returns c = λ done.
    let part = c.args.of.now in
    let find : ℕ × ℕ × ℕ × ℕ → ArrayVec ℕ = λ q. record { items = destinations part.part.book q.0 q.1 q.2 q.3 } in
    told_of_own (λ (q : HlrDestinationAsked). find (q.s_id, q.sf_type, q.start_time, q.end_time)) IsPartDestinationRead (λ q row ns. numbers_told row (numbers_reply ns.items)) part c.args.asked.now c.copy_destinations.new.found.items (λ q. IsOwnCall q part)
    (c.copy_destinations.ensures ∙ ap (map find) (c.as_slice.ensures.value ∙ c.if-not-put_own_calls.ensures.same done) ∙ map_of_map find (λ (q : HlrDestinationAsked). (q.s_id, q.sf_type, q.start_time, q.end_time)) c.args.asked.now) (c.if-not-put_own_calls.ensures.own done) (numbers_are part)
