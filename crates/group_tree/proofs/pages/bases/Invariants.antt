use Rattle.std.proofs.Common.{◌≡◌, map, take}
use Rattle.group_tree.specs.Groups.{base_of}
use Rattle.group_tree.proofs.pages.bases.Given as goal

abbrev pub invariant-loop-place : goal.invariant-loop-place
invariant-loop-place g l = l.bases.items ≡ map (base_of g.G.Group.span) (take l.place l.keys)
