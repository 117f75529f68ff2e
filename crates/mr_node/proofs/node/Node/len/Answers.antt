use Rattle.mr_node.proofs.Common.{rules, arith, ◌-◌, length, sym, ap, subst, ◌∙◌, children_of, IsNode, IsLeaf, IsInner, seen}
use Rattle.mr_node.proofs.KeyedLemmas.{keyed_length}
use Rattle.mr_node.proofs.ChildLemmas.{counts_are}
use Rattle.mr_node.proofs.SizeLemmas.{few_rows, inner_well}
use Rattle.mr_node.proofs.node.Node.len.Goals as goal

pub sum_counts-requires : goal.sum_counts-requires
sum_counts-requires g c =
    let inner = c.in-Inner.inner in
    let whole : IsInner inner = subst IsNode c.in-Inner.is c.self.invariant in
    (search rules, (whole.entries, omega (arith, counts_are 16 (inner.height - 1) (children_of inner) whole.children, few_rows _ (inner_well inner whole))))

pub returns-in-Leaf : goal.returns-in-Leaf
returns-in-Leaf g c =
    let leaf : IsLeaf c.in-Leaf.leaf = subst IsNode c.in-Leaf.is c.self.invariant in
    c.len.ensures.value ∙ sym (keyed_length c.in-Leaf.leaf.keys c.in-Leaf.leaf.values.items leaf.values) ∙ ap (λ s. length s.rows) (sym (ap seen c.in-Leaf.is) ∙ c.self.view_is)

pub returns-in-Inner : goal.returns-in-Inner
returns-in-Inner g c =
    let inner = c.in-Inner.inner in
    let whole : IsInner inner = subst IsNode c.in-Inner.is c.self.invariant in
    c.sum_counts.ensures ∙ counts_are 16 (inner.height - 1) (children_of inner) whole.children ∙ ap (λ s. length s.rows) (sym (ap seen c.in-Inner.is) ∙ c.self.view_is)
