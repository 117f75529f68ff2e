use Rattle.hlr_workers.proofs.Common.{refl, inl, subst, ◌<◌, length, sym, WorkersState}
use Rattle.hlr_workers.proofs.WorkersLemmas.{without_worker, worker_out}
use Rattle.hlr_workers.proofs.workers.Workers.call_out.Goals as goal

pub returns-then-has_worker-clause-out : goal.returns-then-has_worker-clause-out
returns-then-has_worker-clause-out g c =
    rw (← c.self.view_is) (refl, inl refl, worker_out _ c.self.inside.by_part.items c.self.invariant c.args.part (sym c.if-has_worker.ensures))

pub start-requires-clause-home : goal.start-requires-clause-home
start-requires-clause-home g c κs within =
    let low : c.args.part < length _ = subst (λ (v : WorkersState). c.args.part < length v.jobs) (sym c.self.view_is) c.requires in
    rw (← c.self.view_is) (without_worker c.self.inside.register c.rules.ensures.ruled c.self.inside.by_part.items c.self.invariant c.args.part low (sym c.if-has_worker.ensures))
