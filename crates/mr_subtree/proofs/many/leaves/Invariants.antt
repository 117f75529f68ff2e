use Rattle.mr_subtree.proofs.Common.{HaveSameValues}
use Rattle.mr_subtree.proofs.many.leaves.Given as goal

abbrev pub invariant-loop : goal.invariant-loop
invariant-loop g l = HaveSameValues l.fn.root.rows l.fn.keys l.nodes
