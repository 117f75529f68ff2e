use Rattle.hlr_workers.proofs.Common.{◌∙◌, ap, ArrayVec, view, Numbered}
use Rattle.hlr_workers.proofs.WorkLemmas.{do_may, do_same, sends_do}
use Rattle.hlr_workers.proofs.worker.hand_on.Goals as goal

pub push-requires-clause-right : goal.push-requires-clause-right
push-requires-clause-right g c = rw c.replace-batch.ensures.value (sends_do (view c.args.pass.now) c.args.held.now c.requires.may)

pub returns-clause-may : goal.returns-clause-may
returns-clause-may g c =
    do_may (view c.args.pass.now) c.args.held.now c.requires.may (view c.push.new.pass) (rw c.replace-batch.ensures.value at c.push.ensures.sent) c.replace-batch.new.dest
    (ap (λ (b : ArrayVec Numbered). b.items) c.replace-batch.ensures.after ∙ c.new.ensures)

pub returns-clause-same : goal.returns-clause-same
returns-clause-same g c =
    do_same (view c.args.pass.now) c.args.held.now c.requires.may (view c.push.new.pass) (rw c.replace-batch.ensures.value at c.push.ensures.sent) c.replace-batch.new.dest
    (ap (λ (b : ArrayVec Numbered). b.items) c.replace-batch.ensures.after ∙ c.new.ensures)
