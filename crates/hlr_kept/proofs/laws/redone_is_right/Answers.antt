use Rattle.hlr_kept.proofs.EventLemmas.{done_step, not_again}
use Rattle.hlr_kept.proofs.laws.redone_is_right.Goals as goal

pub returns : goal.returns
returns c = λ event before after told change none step.
    (λ done. done_step event before after told done step, λ left room. not_again event before after told change none left room step)
