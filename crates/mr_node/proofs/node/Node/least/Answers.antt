use Rattle.mr_node.proofs.Common.{arith, sym, ap, subst, ◌∙◌, get_or, StartsWith, IsNode, IsLeaf, IsInner, seen}
use Rattle.mr_node.proofs.ChildLemmas.{least_inner}
use Rattle.mr_node.proofs.SizeLemmas.{least_leaf}
use Rattle.mr_node.proofs.node.Node.least.Goals as goal

pub returns-in-Leaf : goal.returns-in-Leaf
returns-in-Leaf g c some =
    let leaf = c.in-Leaf.leaf in
    let whole : IsLeaf leaf = subst IsNode c.in-Leaf.is c.self.invariant in
    let now = sym (ap seen c.in-Leaf.is) ∙ c.self.view_is in
    subst (λ s. StartsWith (get_or leaf.keys 0 0) s.rows) now (least_leaf leaf whole (omega (arith, ap (λ s. s.width) now, some)))

pub returns-in-Inner : goal.returns-in-Inner
returns-in-Inner g c some =
    let inner = c.in-Inner.inner in
    let whole : IsInner inner = subst IsNode c.in-Inner.is c.self.invariant in
    subst (λ s. StartsWith (get_or inner.leasts 0 0) s.rows) (sym (ap seen c.in-Inner.is) ∙ c.self.view_is) (least_inner inner whole)
