use Rattle.hlr_workers.proofs.WorkersLemmas.{idle_parts}
use Rattle.hlr_workers.proofs.workers.Workers.rules.Goals as goal

pub returns-clause-idle : goal.returns-clause-idle
returns-clause-idle c = rw (← c.self.view_is) (idle_parts c.self.inside.register c.self.inside.by_part.items c.self.invariant)
