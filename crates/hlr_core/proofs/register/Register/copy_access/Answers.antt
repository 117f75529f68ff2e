use Rattle.hlr_core.proofs.Common.{◌∙◌, ◌+◌, ℕ, refl, LAST_SUBSCRIBER, IsWithin, IsHomeFor, All-map}
use Rattle.hlr_core.proofs.ManyLemmas.{accesses_found}
use Rattle.hlr_core.proofs.register.Register.copy_access.Goals as goal

pub holding_of_all-requires-clause-within : goal.holding_of_all-requires-clause-within
holding_of_all-requires-clause-within c =
    let same = c.as_slice.ensures.value ∙ c.if-not-put_accesses.ensures.same refl in
    let ids = rw same at c.put_s_ids.ensures in
    rw (c.as_slice-2.ensures.value ∙ ids)
    (All-map (IsWithin 1 (LAST_SUBSCRIBER + 1)) (λ (a : ℕ × ℕ). a.0) c.args.asked.now (λ at a below. (c.if-not-put_accesses.ensures.within refl at a below).0))

pub holding_of_all-requires-clause-home : goal.holding_of_all-requires-clause-home
holding_of_all-requires-clause-home c =
    let same = c.as_slice.ensures.value ∙ c.if-not-put_accesses.ensures.same refl in
    let ids = rw same at c.put_s_ids.ensures in
    rw (c.as_slice-2.ensures.value ∙ ids)
    (All-map (λ n. IsHomeFor n c.self.inside.owners) (λ (a : ℕ × ℕ). a.0) c.args.asked.now (rw (← c.self.view_is) at c.requires.home))

pub returns-clause-found : goal.returns-clause-found
returns-clause-found c = λ done.
    let same = c.as_slice.ensures.value ∙ c.if-not-put_accesses.ensures.same refl in
    let ids = rw same at c.put_s_ids.ensures in
    let all = c.as_slice-2.ensures.value ∙ ids in
    rw (← c.self.view_is)
    (accesses_found c.self.inside.owners c.in-Some.holding.now c.args.asked.now c.copy_access.new.rows.items (c.if-not-put_accesses.ensures.within refl) (rw all at c.in-Some.ensures.while_out)
    (rw (c.as_slice-3.ensures.value ∙ c.if-not-put_accesses.ensures.same refl) at c.copy_access.ensures))
