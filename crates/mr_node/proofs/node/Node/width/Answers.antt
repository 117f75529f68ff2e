use Rattle.mr_node.proofs.Common.{sym, ap, subst, ◌∙◌, seen, IsWell}
use Rattle.mr_node.proofs.SizeLemmas.{node_well}
use Rattle.mr_node.proofs.node.Node.width.Goals as goal

pub returns-in-Leaf-clause-well : goal.returns-in-Leaf-clause-well
returns-in-Leaf-clause-well g c = subst IsWell c.self.view_is (node_well c.self.inside.body c.self.invariant)

pub returns-in-Inner-clause-well : goal.returns-in-Inner-clause-well
returns-in-Inner-clause-well g c = subst IsWell c.self.view_is (node_well c.self.inside.body c.self.invariant)

pub returns-in-Leaf-clause-value : goal.returns-in-Leaf-clause-value
returns-in-Leaf-clause-value g c = c.len.ensures.value ∙ ap (λ s. s.width) (sym (ap seen c.in-Leaf.is) ∙ c.self.view_is)

pub returns-in-Inner-clause-value : goal.returns-in-Inner-clause-value
returns-in-Inner-clause-value g c = ap (λ s. s.width) (sym (ap seen c.in-Inner.is) ∙ c.self.view_is)
