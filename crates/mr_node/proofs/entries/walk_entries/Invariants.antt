use Rattle.mr_node.proofs.Common.{take, pairs_of, WalksRows}
use Rattle.mr_node.proofs.entries.walk_entries.Given as goal

abbrev pub invariant-loop-place : goal.invariant-loop-place
invariant-loop-place g l = WalksRows (λ a k r b. goal.F-post g l.f a k r tt b) l.initial.so_far (take l.place (pairs_of l.leaf)) l.so_far
