use Rattle.hlr_workers.proofs.Common.{◌<◌, length, subst, sym, IsWithinJob, job_of, Sent, MOST_PENDING}
use Rattle.hlr_workers.proofs.worker.Worker.send.Goals as goal

pub hold-requires-clause-room : goal.hold-requires-clause-room
hold-requires-clause-room g c = subst (λ (s : Sent). length s.jobs < MOST_PENDING) (sym c.self.view_is) c.requires.room

pub hold-requires-clause-within : goal.hold-requires-clause-within
hold-requires-clause-within g c = subst (λ (s : Sent). IsWithinJob s.lent (job_of c.args.task)) (sym c.self.view_is) c.requires.within
