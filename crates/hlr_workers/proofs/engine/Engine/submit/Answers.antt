use Rattle.hlr_workers.proofs.Common.{◌≡◌, ◌∙◌, inr, length}
use Rattle.hlr_workers.proofs.engine.Engine.submit.Goals as goal

pub returns-clause-took : goal.returns-clause-took
returns-clause-took g c =
    let number : c.len-number.result ≡ length c.reserve.new.replies.items = c.len-number.ensures ∙ c.reserve.new.replies.ok.0 in
    let answered = rw c.in_ok-reply.was at c.answer.ensures.answered in
    let took = rw c.reserve.ensures.items at answered.took in
    rw (← c.self.view_is, c.push_reserved.ensures.items, number, c.reserve.ensures.items) took

pub returns-in_err-reply-clause-memory : goal.returns-in_err-reply-clause-memory
returns-in_err-reply-clause-memory g c = rw (← c.self.view_is) (λ is. inr (rw c.in_err-reply.was at c.answer.ensures.wants))

pub returns-in_err-reply-clause-thread : goal.returns-in_err-reply-clause-thread
returns-in_err-reply-clause-thread g c = rw (← c.self.view_is) (λ is. (rw c.in_err-reply.was at c.answer.ensures.wants))
