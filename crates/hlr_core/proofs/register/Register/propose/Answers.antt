use Rattle.hlr_core.proofs.Common.{◌∙◌, sym, unposted_is, store_in}
use Rattle.hlr_core.proofs.WeightLemmas.{proposed, proposed_counted}
use Rattle.hlr_core.proofs.register.Register.propose.Goals as goal

pub returns-clause-value : goal.returns-clause-value
returns-clause-value c =
    proposed (store_in c.args.self.now) _ _ _ _ _ c.published.ensures c.zone_weights-weights.ensures.value (rw (c.self.view_is) at c.parts-parts.ensures.value) (rw (c.self.view_is) at c.width.ensures.value) c.propose.ensures.value

pub returns-clause-counted : goal.returns-clause-counted
returns-clause-counted c = λ none.
    proposed_counted (store_in c.args.self.now) _ (rw (c.self.view_is) at c.self.invariant.rows.rules) (returns-clause-value c)
    (λ k below. rw (c.self.view_is) at (sym (unposted_is _ c.rules.ensures.ruled _ c.rules.ensures.desks k below)) ∙ none k below)
