use Rattle.mr_node.proofs.Common.{take, pairs_of, FoldsRows}
use Rattle.mr_node.proofs.entries.fold_entries.Given as goal

abbrev pub invariant-loop-place : goal.invariant-loop-place
invariant-loop-place g l = FoldsRows (λ a k r b. goal.F-post g l.f a k r b) l.fn.init (take l.place (pairs_of l.leaf)) l.folded
