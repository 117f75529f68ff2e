use Rattle.hlr_core.proofs.CommuteLemmas.{jobs_commute}
use Rattle.hlr_core.proofs.LaterLemmas.{done_later}
use Rattle.hlr_core.proofs.SentLemmas.{within_job}
use Rattle.hlr_core.proofs.register.Register.lend.Goals as goal

pub invariant_of-self : goal.invariant_of-self
invariant_of-self c = rw c.lend.ensures.states c.self.invariant

pub returns-clause-within : goal.returns-clause-within
returns-clause-within c = rw (← c.self.view_is) (within_job _ _ c.lend.result.value c.lend.ensures.within)

pub returns-clause-commute : goal.returns-clause-commute
returns-clause-commute c = jobs_commute _

pub returns-clause-later : goal.returns-clause-later
returns-clause-later c = rw (← c.self.view_is) (λ job before after answer. done_later _ _ job before after answer)
