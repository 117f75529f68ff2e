use Rattle.mr_subtree.proofs.Common.{◌≡◌, length, KeepSameValues}
use Rattle.mr_subtree.proofs.many.next_nodes.Given as goal

abbrev pub invariant-loop-place : goal.invariant-loop-place
invariant-loop-place g l = (length l.nodes ≡ 16) × KeepSameValues l.fn.keys l.fn.nodes l.nodes
