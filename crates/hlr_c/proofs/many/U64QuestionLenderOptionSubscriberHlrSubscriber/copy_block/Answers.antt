use Rattle.hlr_c.proofs.Common.{ℕ, refl, subscriber_reply, AWAY}
use Rattle.hlr_core.specs.declared.event.Event.TheVariants as event
use Rattle.hlr_c.specs.Told.{subscriber_told}
use Rattle.hlr_c.proofs.FoundLemmas.{told_of_found}
use Rattle.hlr_c.proofs.many.U64QuestionLenderOptionSubscriberHlrSubscriber.copy_block.Goals as goal

pub returns : goal.returns
returns c = λ done.
    told_of_found (λ (s_id : ℕ). event.SubscriberData s_id) subscriber_reply (λ s_id. subscriber_told) (λ row. (AWAY, row)) c.args.of.now c.args.asked.now c.copy_subscribers.new.rows.items (λ q one. record { homes = refl; outs = refl; spare = refl }) (c.is_all_home.ensures.0 c.if-not-is_all_home.false)
    (rw (c.register.ensures.value) at (c.copy_subscribers.ensures.found done))
