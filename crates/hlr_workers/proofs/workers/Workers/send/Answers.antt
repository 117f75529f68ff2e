use Rattle.hlr_workers.proofs.Common.{subst, sym, job_of, IsOut, WorkersState}
use Rattle.hlr_workers.proofs.WorkersLemmas.{IsSending, sends}
use Rattle.hlr_workers.proofs.workers.Workers.send.Goals as goal
use Rattle.hlr_workers.proofs.workers.Workers.send.Goals.{After-offer_before}

-- what holds once the worker is out, and was offered what others hold
sending : (g : _) (c : After-offer_before g) → IsSending c.args.self.now c.self.inside.register c.self.inside.by_part.items c.args.part c.args.number (job_of c.args.task)
sending g c =
    let out = subst (λ (v : WorkersState). IsOut c.args.part c.args.self.now v) (sym c.self.view_is) (rw c.in_ok-call_out.was at c.call_out.ensures.out) in
    sends _ _ c.rules.ensures.ruled _ c.self.invariant c.args.part c.args.number (job_of c.args.task) out c.requires.of c.requires.room

pub send_to-requires-clause-worker : goal.send_to-requires-clause-worker
send_to-requires-clause-worker g c = rw c.offer_before.ensures (sending g (goal.at.send_to-requires-clause-worker g c).After-offer_before).may

pub send_to-requires-clause-some : goal.send_to-requires-clause-some
send_to-requires-clause-some g c = rw c.offer_before.ensures (sending g (goal.at.send_to-requires-clause-some g c).After-offer_before).some

pub invariant_of-self : goal.invariant_of-self
invariant_of-self g c = rw (c.send_to.ensures, c.offer_before.ensures) (sending g (goal.at.invariant_of-self g c).After-offer_before).each

pub returns-clause-sent : goal.returns-clause-sent
returns-clause-sent g c = rw (c.send_to.ensures, c.offer_before.ensures) (sending g (goal.at.returns-clause-sent g c).After-offer_before).sent
