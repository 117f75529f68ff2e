use Rattle.hlr_c.proofs.Common.{◌∙◌, ap, map, subscriber_at, subscriber_reply, IsOwn, IsPartSubscriberRead, subscriber_told}
use Rattle.hlr_c.proofs.OwnLemmas.{subscriber_is, told_of_own}
use Rattle.hlr_c.proofs.part_many.U64QuestionLentPartOptionSubscriberHlrSubscriber.copy_block.Goals as goal

pub returns : goal.returns
returns c = λ done.
    let part = c.args.of.now in
    let find = subscriber_at part.part.book in
    told_of_own find IsPartSubscriberRead (λ s_id row o. subscriber_told row (subscriber_reply o)) part c.args.asked.now c.copy_subscribers.new.rows.items (λ s_id. IsOwn s_id part)
    (c.copy_subscribers.ensures ∙ ap (map find) (c.as_slice.ensures.value ∙ c.if-not-put_own.ensures.same done)) (c.if-not-put_own.ensures.own done) (subscriber_is part)
