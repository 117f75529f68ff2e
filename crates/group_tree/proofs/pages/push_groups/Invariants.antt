use Rattle.group_tree.proofs.Common.{◌≡◌, ◌++◌, take, rows_of}
use Rattle.group_tree.proofs.pages.push_groups.Given as goal

abbrev pub invariant-loop-place : goal.invariant-loop-place
invariant-loop-place g l = l.page.items ≡ l.initial.page.items ++ rows_of g.G.Group.listed (take l.place l.groups)
