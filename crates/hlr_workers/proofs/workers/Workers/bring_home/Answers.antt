use Rattle.hlr_workers.proofs.Common.{◌∙◌, sym}
use Rattle.hlr_workers.proofs.WorkersLemmas.{home_again, home_each, home_still, home_with}
use Rattle.hlr_workers.proofs.workers.Workers.bring_home.Goals as goal

pub returns-in_err-worker-clause-home : goal.returns-in_err-worker-clause-home
returns-in_err-worker-clause-home g c =
    rw (c.from_residual.ensures, ← c.self.view_is)
    (home_still c.self.inside.register c.rules.ensures.ruled c.self.inside.by_part.items c.self.invariant c.args.part (sym c.take_worker.ensures.worker ∙ c.in_err-worker.was)
    c.take_worker.new.by_part.items c.take_worker.ensures.items)

pub back-requires : goal.back-requires
back-requires g c =
    home_with c.self.inside.register c.rules.ensures.ruled c.self.inside.by_part.items c.self.invariant c.args.part c.in_ok-worker.worker (sym c.take_worker.ensures.worker ∙ c.in_ok-worker.was)
    c.join-holding.result.1.items c.join-holding.result.0.value c.join-holding.ensures.session

pub invariant_of-self-2 : goal.invariant_of-self-2
invariant_of-self-2 g c =
    let with = home_with c.self.inside.register c.rules.ensures.ruled c.self.inside.by_part.items c.self.invariant c.args.part c.in_ok-worker.worker (sym c.take_worker.ensures.worker ∙ c.in_ok-worker.was)
    c.join-holding.result.1.items c.join-holding.result.0.value c.join-holding.ensures.session in
    rw (c.back.ensures with.0 with.1, c.take_worker.ensures.items)
    (home_each c.self.inside.register c.rules.ensures.ruled c.self.inside.by_part.items c.self.invariant c.args.part c.in_ok-worker.worker (sym c.take_worker.ensures.worker ∙ c.in_ok-worker.was)
    c.join-holding.result.1.items c.join-holding.result.0.value c.join-holding.ensures.session)

pub returns-clause-home : goal.returns-clause-home
returns-clause-home g c =
    let with = home_with c.self.inside.register c.rules.ensures.ruled c.self.inside.by_part.items c.self.invariant c.args.part c.in_ok-worker.worker (sym c.take_worker.ensures.worker ∙ c.in_ok-worker.was)
    c.join-holding.result.1.items c.join-holding.result.0.value c.join-holding.ensures.session in
    rw (c.back.ensures with.0 with.1, c.take_worker.ensures.items, ← c.self.view_is)
    (home_again c.self.inside.register c.rules.ensures.ruled c.self.inside.by_part.items c.self.invariant c.args.part c.in_ok-worker.worker (sym c.take_worker.ensures.worker ∙ c.in_ok-worker.was)
    c.join-holding.result.1.items c.join-holding.result.0.value c.join-holding.ensures.session)
