use Rattle.mr_node.proofs.Common.{rules, ◌≡◌, length, subst, sym, IsChildPlace}
use Rattle.mr_node.proofs.EntryListLemmas.{entries_rises}
use Rattle.mr_node.proofs.SearchLemmas.{child_placed}
use Rattle.mr_node.proofs.children.child_place.Goals as goal

pub count_below-requires : goal.count_below-requires
count_below-requires g c = entries_rises c.args.inner.now.len c.args.inner.now.leasts c.args.inner.now.children c.requires.entries c.requires.ordered c.requires.below

pub returns : goal.returns
returns g c =
    let b = c.args.inner.now in
    let long : length b.leasts ≡ 32 = search rules in
    subst (λ i. IsChildPlace c.args.key i b.len b.leasts) (sym c.saturating_sub.ensures)
    (child_placed c.args.key c.saturating_add.result b.len c.count_below.result b.leasts b.children long c.requires.some c.requires.entries c.requires.ordered c.requires.below c.saturating_add.ensures c.count_below.ensures)
