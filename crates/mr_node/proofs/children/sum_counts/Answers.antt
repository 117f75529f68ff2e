use Rattle.mr_node.proofs.Common.{arith, ◌+◌, ap, ◌∙◌, sum_by, take_all, entries}
use Rattle.mr_node.proofs.EntryListLemmas.{entries_length}
use Rattle.mr_node.proofs.ChildLemmas.{counts_more, counts_within}
use Rattle.mr_node.proofs.children.sum_counts.Goals as goal

pub overflow_add-total : goal.overflow_add-total
overflow_add-total g c =
    let b = c.args.inner.now in
    let more = counts_more b.len c.loop-place.place c.count_at-total.result b.leasts b.children c.requires.entries c.loop-place-test.true c.count_at-total.ensures in
    omega (arith, more, counts_within (c.loop-place.place + 1) (entries b.leasts b.children), c.loop-place.invariant, c.requires.fits)

pub loop-place-preserved : goal.loop-place-preserved
loop-place-preserved g c =
    let b = c.args.inner.now in
    let more = counts_more b.len c.loop-place.place c.count_at-total.result b.leasts b.children c.requires.entries c.loop-place-test.true c.count_at-total.ensures in
    omega (arith, more, c.loop-place.invariant)

pub returns : goal.returns
returns g c =
    let b = c.args.inner.now in
    c.loop-place.invariant ∙ ap (sum_by (λ k. k.1.count)) (take_all c.loop-place.place (entries b.leasts b.children) (omega (arith, entries_length b.len b.leasts b.children c.requires.entries, c.loop-place-test.false)))
