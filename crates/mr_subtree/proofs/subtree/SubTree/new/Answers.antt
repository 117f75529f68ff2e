use Rattle.mr_subtree.proofs.Common.{rules}
use Rattle.mr_subtree.proofs.subtree.SubTree.new.Goals as goal

pub invariant_of-result : goal.invariant_of-result
invariant_of-result g c = rw c.new.ensures (search rules)
