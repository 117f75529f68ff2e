use Rattle.hlr_workers.proofs.Common.{◌∙◌, ap, ArrayVec, view, Numbered}
use Rattle.hlr_workers.proofs.WorkLemmas.{do_may, do_same, sends_do}
use Rattle.hlr_workers.proofs.worker.offer.Goals as goal

pub offer-requires-clause-right : goal.offer-requires-clause-right
offer-requires-clause-right c = rw c.replace-batch.ensures.value (sends_do (view c.args.pass.now) c.args.held.now c.requires.may)

pub returns-in_default-clause-may : goal.returns-in_default-clause-may
returns-in_default-clause-may c =
    do_may (view c.args.pass.now) c.args.held.now c.requires.may (view c.offer.new.pass) (rw c.replace-batch.ensures.value at c.in_default.ensures.sent) c.replace-batch.new.dest
    (ap (λ (b : ArrayVec Numbered). b.items) c.replace-batch.ensures.after ∙ c.new.ensures)

pub returns-in_default-clause-same : goal.returns-in_default-clause-same
returns-in_default-clause-same c =
    do_same (view c.args.pass.now) c.args.held.now c.requires.may (view c.offer.new.pass) (rw c.replace-batch.ensures.value at c.in_default.ensures.sent) c.replace-batch.new.dest
    (ap (λ (b : ArrayVec Numbered). b.items) c.replace-batch.ensures.after ∙ c.new.ensures)
