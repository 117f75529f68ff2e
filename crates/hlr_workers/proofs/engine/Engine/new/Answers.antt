use Rattle.hlr_workers.proofs.Common.{[], inl, refl, subst, OwnersState, store_in, NoneOut, engaged, Stands}
use Rattle.hlr_workers.proofs.WorkersLemmas.{outs_home}
use Rattle.hlr_workers.proofs.EngineLemmas.{new_kept, new_stands}
use Rattle.hlr_workers.proofs.engine.Engine.new.Goals as goal

pub invariant_of-result : goal.invariant_of-result
invariant_of-result g c =
    rw c.new.ensures.items
    (new_kept c.of.result (rw c.of.ensures.register c.of.ensures.paired) c.of.ensures.jobs, λ none. rw c.of.ensures.register (outs_home c.args.register.owners c.requires), inl refl)

pub returns-clause-stands : goal.returns-clause-stands
returns-clause-stands g c =
    let none : NoneOut c.of.result = rw c.of.ensures.register (outs_home c.args.register.owners c.requires) in
    rw c.new.ensures.items (subst (λ (h : OwnersState). Stands (engaged c.of.result []) (store_in h) []) c.of.ensures.register (new_stands c.of.result none))
