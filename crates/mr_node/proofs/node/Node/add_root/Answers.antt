use Rattle.mr_node.proofs.Common.{subst, HasNewRoot}
use Rattle.mr_node.proofs.node.Node.add_root.Goals as goal

pub returns-clause-root : goal.returns-clause-root
returns-clause-root g c = subst (λ s. HasNewRoot s c.root_over.result) c.replace.ensures.value c.root_over.ensures.root
