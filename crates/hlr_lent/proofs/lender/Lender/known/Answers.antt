use Rattle.hlr_lent.proofs.Common.{◌≡◌, ◌∙◌, ap, refl, sym, allowed}
use Rattle.hlr_lent.proofs.EventLemmas.{here_asks, here_known, here_refused, not_away, refused_here}
use Rattle.hlr_lent.proofs.lender.Lender.known.Goals as goal

pub returns-in-Refused-clause-step : goal.returns-in-Refused-clause-step
returns-in-Refused-clause-step c =
    rw (← c.self.view_is) (refused_here c.args.event.now c.in-Refused.why c.self.inside.register (rw c.in-Refused.is at c.route_task.ensures))

pub returns-in-Refused-clause-here : goal.returns-in-Refused-clause-here
returns-in-Refused-clause-here c =
    rw (← c.self.view_is) (not_away c.args.event.now c.in-Refused.why c.self.inside.register (rw c.in-Refused.is at c.route_task.ensures))

-- what the regions said
told : (c : goal.After-err) → c.allowed.result ≡ allowed c.args.event.now c.self.inside.register.regions
told c = c.allowed.ensures ∙ ap (allowed c.args.event.now) c.regions.ensures.value

pub returns-in-Here-clause-step : goal.returns-in-Here-clause-step
returns-in-Here-clause-step c =
    rw (c.err.ensures.value, ← c.self.view_is) (here_refused c.self.inside.register c.args.event.now c.allowed.result (told c))

pub returns-in-Here-clause-here : goal.returns-in-Here-clause-here
returns-in-Here-clause-here c =
    rw (c.err.ensures.value, ← c.self.view_is) (here_known c.self.inside.register c.args.event.now c.allowed.result (told c))

pub returns-in-Here-clause-asking : goal.returns-in-Here-clause-asking
returns-in-Here-clause-asking c = λ none.
    rw (← c.self.view_is)
    (here_asks c.self.inside.register c.args.event.now c.allowed.result (told c) (rw c.in-Here.is at c.route_task.ensures) (sym c.err.ensures.value ∙ none))
