use Rattle.hlr_core.proofs.Common.{◌∙◌, sym}
use Rattle.hlr_core.proofs.IndexLemmas.{bearer_indexed, bearer_within}
use Rattle.hlr_core.proofs.register.Register.bearer.Goals as goal

pub returns-clause-value : goal.returns-clause-value
returns-clause-value c = rw (← c.self.view_is) (c.find.ensures ∙ bearer_indexed _ _ _ c.self.invariant)

pub returns-clause-within : goal.returns-clause-within
returns-clause-within c = λ s_id found. bearer_within _ _ _ s_id c.self.invariant (sym found ∙ c.find.ensures)
