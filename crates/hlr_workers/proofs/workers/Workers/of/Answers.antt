use Rattle.hlr_workers.proofs.Common.{◌≡◌, ◌∙◌, ap, length, arith, outs_in}
use Rattle.hlr_workers.proofs.WorkersLemmas.{as_parts, none_each, none_long, none_sent, outs_home}
use Rattle.hlr_workers.proofs.workers.Workers.of.Goals as goal

-- as many places were put in as there are parts
all_parts : (c : goal.After-new) → c.loop.counter ≡ length (outs_in c.args.register.owners)
all_parts c =
    let count = as_parts c.args.register c.rules.ensures.ruled in
    let parts = c.parts-end.ensures.value in
    omega (arith, ap (λ regions. length (Rattle.part_table.specs.Regions.parts_of regions)) c.regions.ensures.value, c.loop.auto.counter-end, c.loop-test.false)

pub invariant_of-result : goal.invariant_of-result
invariant_of-result c = rw (c.loop.invariant.0, all_parts c) (none_each (outs_in c.args.register.owners) (outs_home c.args.register.owners c.requires))

pub returns-clause-jobs : goal.returns-clause-jobs
returns-clause-jobs c = rw (c.loop.invariant.0) (none_sent c.loop.counter)

pub returns-clause-paired : goal.returns-clause-paired
returns-clause-paired c = rw (c.loop.invariant.0) (none_long c.loop.counter ∙ all_parts c)
