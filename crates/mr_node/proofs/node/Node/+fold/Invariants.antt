use Rattle.mr_node.proofs.Common.{take, children_of, rows_of, FoldsRows}
use Rattle.mr_node.proofs.node.Node.+fold.Given as goal

abbrev pub invariant-loop-place : goal.invariant-loop-place
invariant-loop-place g l = FoldsRows (λ a k r b. goal.F-post g l.f a k r b) l.fn.init (rows_of (take l.place (children_of l.inner))) l.folded
