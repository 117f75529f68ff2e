use Rattle.hlr_core.proofs.Common.{◌∙◌, ◌+◌, ℕ, refl, LAST_SUBSCRIBER, IsWithin, IsHomeFor, All-map}
use Rattle.hlr_core.proofs.ManyLemmas.{destinations_found}
use Rattle.hlr_core.proofs.register.Register.copy_destinations.Goals as goal

pub holding_of_all-requires-clause-within : goal.holding_of_all-requires-clause-within
holding_of_all-requires-clause-within c =
    rw (c.as_slice.ensures.value ∙ c.if-not-put_calls.ensures.ids refl)
    (All-map (IsWithin 1 (LAST_SUBSCRIBER + 1)) (λ (q : ℕ × ℕ × ℕ × ℕ). q.0) c.args.asked.now (λ at q below. (c.if-not-put_calls.ensures.within refl at q below).0))

pub holding_of_all-requires-clause-home : goal.holding_of_all-requires-clause-home
holding_of_all-requires-clause-home c =
    rw (c.as_slice.ensures.value ∙ c.if-not-put_calls.ensures.ids refl)
    (All-map (λ n. IsHomeFor n c.self.inside.owners) (λ (q : ℕ × ℕ × ℕ × ℕ). q.0) c.args.asked.now (rw (← c.self.view_is) at c.requires.home))

pub returns-clause-found : goal.returns-clause-found
returns-clause-found c = λ done.
    let ids = c.as_slice.ensures.value ∙ c.if-not-put_calls.ensures.ids refl in
    rw (← c.self.view_is)
    (destinations_found c.self.inside.owners c.in-Some.holding.now c.args.asked.now c.copy_destinations.new.found.items (c.if-not-put_calls.ensures.within refl) (rw ids at c.in-Some.ensures.while_out)
    (rw (c.as_slice-2.ensures.value ∙ c.if-not-put_calls.ensures.same refl) at c.copy_destinations.ensures))
