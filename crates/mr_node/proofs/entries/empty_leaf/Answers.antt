use Rattle.mr_node.proofs.Common.{rules}
use Rattle.mr_node.proofs.entries.empty_leaf.Goals as goal

pub returns-clause-leaf : goal.returns-clause-leaf
returns-clause-leaf g c = rw c.new.ensures (search rules)
