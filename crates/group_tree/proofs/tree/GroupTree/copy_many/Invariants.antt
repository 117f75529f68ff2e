use Rattle.group_tree.proofs.Common.{◌≡◌, map, take, value_at}
use Rattle.group_tree.proofs.tree.GroupTree.copy_many.Given as goal

abbrev pub invariant-loop-place : goal.invariant-loop-place
invariant-loop-place g l = l.found.items ≡ map (λ key. value_at key l.self.rows) (take l.place l.keys)
