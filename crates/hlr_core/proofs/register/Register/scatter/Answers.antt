use Rattle.hlr_core.proofs.Common.{ap, Store}
use Rattle.hlr_core.proofs.GatheredRowsLemmas.{memory_alone}
use Rattle.hlr_core.proofs.register.Register.scatter.Goals as goal

pub returns-clause-fits : goal.returns-clause-fits
returns-clause-fits c why =
    let book = ap (λ (store : Store). store.book.subscribers) c.scatter.ensures.again in
    memory_alone c.scatter.result why c.scatter.ensures.fits (rw book c.self.invariant.alone)

pub returns-clause-difference : goal.returns-clause-difference
returns-clause-difference c = λ k below. rw (← c.self.view_is) (c.scatter.ensures.difference k below)
