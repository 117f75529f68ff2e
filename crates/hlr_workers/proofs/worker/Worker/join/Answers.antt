use Rattle.hlr_workers.proofs.Common.{ap, arith, refl, subst, view, HasDone, Sent, jobs_of, lent_of, IsSession, Log}
use Rattle.hlr_workers.proofs.RelayLemmas.{merges}
use Rattle.hlr_workers.proofs.WorkLemmas.{held_room, held_within}
use Rattle.hlr_workers.proofs.worker.Worker.join.Goals as goal

pub absorb-requires-clause-rule : goal.absorb-requires-clause-rule
absorb-requires-clause-rule g c = merges _ _ _ _ (ap (λ (l : Log). l.pushes) c.self.invariant.may.log) (ap (λ (l : Log). l.pops) c.join-theirs.ensures.work.0)

pub do_rest-requires-clause-both : goal.do_rest-requires-clause-both
do_rest-requires-clause-both g c κs lives = rw c.absorb.ensures.rule refl

pub do_rest-requires-clause-work : goal.do_rest-requires-clause-work
do_rest-requires-clause-work g c κs lives = rw (c.absorb.ensures.rule, c.deref_mut.ensures.value) c.join-theirs.ensures.work.1

pub do_batch-requires-clause-within : goal.do_batch-requires-clause-within
do_batch-requires-clause-within g c κs lives =
    let v = view c.self.inside.pass in
    let done : HasDone v.sent c.do_rest.new.replies.items c.do_rest.new.holding = rw c.absorb.ensures.rule at c.do_rest.ensures.work in
    rw c.deref_mut-2.ensures.value (held_within v c.self.inside.held c.self.invariant.may c.do_rest.new.replies.items c.do_rest.new.holding done)

pub do_batch-requires-clause-room : goal.do_batch-requires-clause-room
do_batch-requires-clause-room g c κs lives =
    let v = view c.self.inside.pass in
    let done : HasDone v.sent c.do_rest.new.replies.items c.do_rest.new.holding = rw c.absorb.ensures.rule at c.do_rest.ensures.work in
    omega (arith, held_room v c.self.inside.held c.self.invariant.may c.do_rest.new.replies.items c.do_rest.new.holding done, c.do_rest.ensures.room)

pub returns-clause-session : goal.returns-clause-session
returns-clause-session g c =
    let v = view c.self.inside.pass in
    let done : HasDone v.sent c.do_rest.new.replies.items c.do_rest.new.holding = rw c.absorb.ensures.rule at c.do_rest.ensures.work in
    let more = rw c.deref_mut-2.ensures.value at c.do_batch.ensures.done in
    subst (λ (s : Sent). IsSession s.lent s.jobs c.do_batch.new.replies.items c.do_batch.new.holding) c.self.view_is (more (lent_of v.sent) (jobs_of v.sent) done.1)

pub returns-clause-room : goal.returns-clause-room
returns-clause-room g c = rw c.do_batch.ensures.capacity c.do_rest.ensures.room
