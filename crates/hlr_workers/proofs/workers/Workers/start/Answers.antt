use Rattle.hlr_workers.proofs.WorkersLemmas.{started_each, started_out}
use Rattle.hlr_workers.proofs.workers.Workers.start.Goals as goal

pub invariant_of-self-2 : goal.invariant_of-self-2
invariant_of-self-2 g c =
    rw c.put_worker.ensures
    (started_each c.self.inside.register c.rules.ensures.ruled c.self.inside.by_part.items c.self.invariant c.args.part c.lend.result.value c.lend.new.self c.lend.ensures.lent c.begin-worker.result c.begin-worker.ensures.lent c.begin-worker.ensures.jobs)

pub returns-clause-out : goal.returns-clause-out
returns-clause-out g c =
    rw (← c.self.view_is, c.put_worker.ensures)
    (started_out c.self.inside.register c.rules.ensures.ruled c.self.inside.by_part.items c.self.invariant c.args.part c.lend.result.value c.lend.new.self c.lend.ensures.lent c.begin-worker.result c.begin-worker.ensures.lent c.begin-worker.ensures.jobs)
