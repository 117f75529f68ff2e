use Rattle.hlr_core.proofs.Common.{◌∙◌, refl}
use Rattle.hlr_core.proofs.ManyLemmas.{subscribers_found}
use Rattle.hlr_core.proofs.register.Register.copy_subscribers.Goals as goal

pub returns-clause-found : goal.returns-clause-found
returns-clause-found c = λ done.
    let same = c.if-not-put_ids.ensures.same refl in
    let ids = c.as_slice.ensures.value ∙ same in
    rw (← c.self.view_is)
    (subscribers_found c.self.inside.owners c.in-Some.holding.now c.args.s_ids.now c.copy_subscribers.new.rows.items (c.if-not-put_ids.ensures.within refl) (rw ids at c.in-Some.ensures.while_out)
    (rw (c.as_slice-2.ensures.value ∙ same) at c.copy_subscribers.ensures))
