use Rattle.mr_node.proofs.Common.{take, children_of, rows_of, WalksRows}
use Rattle.mr_node.proofs.node.Node.+walk.Given as goal

abbrev pub invariant-loop-place : goal.invariant-loop-place
invariant-loop-place g l = WalksRows (λ a k r b. goal.F-post g l.f a k r tt b) l.initial.so_far (rows_of (take l.place (children_of l.inner))) l.so_far
