use Rattle.mr_node.proofs.Common.{rules, ◌<◌, sym, ap, subst, ◌∙◌}
use Rattle.mr_node.proofs.node.drop_root.Goals as goal

pub only_child-requires : goal.only_child-requires
only_child-requires g c = (search rules, (subst (λ s. 0 < s.height) (sym c.replace-node.ensures.value) c.requires.above_leaves, ap (λ s. s.width) c.replace-node.ensures.value ∙ c.requires.one))

pub returns-clause-level : goal.returns-clause-level
returns-clause-level g c = sym (ap (λ s. s.height) c.replace-node.ensures.value) ∙ c.only_child.ensures.level
