use Rattle.hlr_workers.proofs.Common.{inl, refl}
use Rattle.hlr_core.specs.declared.event.Reply.TheVariants as reply
use Rattle.hlr_workers.proofs.EngineLemmas.{all_home, new_kept, new_stands, settled}
use Rattle.hlr_workers.proofs.engine.Engine.settle.Goals as goal

pub invariant_of-self : goal.invariant_of-self
invariant_of-self g c =
    let b = c.bring_all_home in
    rw (c.replace.ensures.after, c.new.ensures.items) (new_kept b.new.workers b.ensures.brought.kept.paired b.ensures.jobs, λ none. b.ensures.home, inl refl)

pub returns-clause-right : goal.returns-clause-right
returns-clause-right g c =
    let b = c.bring_all_home in
    rw (c.replace.ensures.value, ← c.self.view_is)
    (λ start asked stood. settled b.new.workers b.ensures.home b.new.replies.items (reply.Posted 0) b.ensures.brought.kept start asked (b.ensures.brought.stands start asked stood))

pub returns-clause-home : goal.returns-clause-home
returns-clause-home g c = all_home c.bring_all_home.new.workers.register.owners c.bring_all_home.ensures.home

pub returns-clause-stands : goal.returns-clause-stands
returns-clause-stands g c = rw (c.replace.ensures.after, c.new.ensures.items) (new_stands c.bring_all_home.new.workers c.bring_all_home.ensures.home)
