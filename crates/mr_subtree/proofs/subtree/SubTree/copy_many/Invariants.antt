use Rattle.mr_subtree.proofs.Common.{◌≡◌, map, take, value_at}
use Rattle.mr_subtree.proofs.subtree.SubTree.copy_many.Given as goal

abbrev pub invariant-loop-place : goal.invariant-loop-place
invariant-loop-place g l = l.found.items ≡ map (λ key. value_at key l.fn.self.rows) (take l.place l.fn.keys)
