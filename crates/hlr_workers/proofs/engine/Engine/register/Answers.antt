use Rattle.hlr_workers.proofs.Common.{◌≡◌, [], subst, sym, store_in, engaged, Engaged, IsSettled, Stands}
use Rattle.hlr_core.specs.declared.event.Reply.TheVariants as reply
use Rattle.hlr_workers.proofs.EngineLemmas.{all_home, new_stands, settled}
use Rattle.hlr_workers.proofs.engine.Engine.register.Goals as goal

pub returns-clause-home : goal.returns-clause-home
returns-clause-home g c =
    let empty = subst (λ (e : Engaged). e.replies ≡ []) (sym c.self.view_is) c.requires in
    rw (← c.self.view_is) (all_home c.self.inside.workers.register.owners (c.self.invariant.1 empty))

pub returns-clause-right : goal.returns-clause-right
returns-clause-right g c =
    let e = c.self.inside in
    let empty : e.replies.items ≡ [] = subst (λ (e : Engaged). e.replies ≡ []) (sym c.self.view_is) c.requires in
    let whole = settled e.workers (c.self.invariant.1 empty) e.replies.items (reply.Posted 0) c.self.invariant.0 in
    rw (← c.self.view_is) (subst (λ replies. IsSettled (engaged e.workers e.replies.items) replies e.workers.register) empty whole)

pub returns-clause-stands : goal.returns-clause-stands
returns-clause-stands g c =
    let e = c.self.inside in
    let empty : e.replies.items ≡ [] = subst (λ (e : Engaged). e.replies ≡ []) (sym c.self.view_is) c.requires in
    rw (← c.self.view_is) (subst (λ replies. Stands (engaged e.workers replies) (store_in e.workers.register) []) (sym empty) (new_stands e.workers (c.self.invariant.1 empty)))
