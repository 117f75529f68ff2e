use Rattle.mr_node.proofs.Common.{◌≡◌, take, sum_by, entries}
use Rattle.mr_node.proofs.children.sum_counts.Given as goal

abbrev pub invariant-loop-place : goal.invariant-loop-place
invariant-loop-place g l = l.total ≡ sum_by (λ k. k.1.count) (take l.place (entries l.inner.leasts l.inner.children))
