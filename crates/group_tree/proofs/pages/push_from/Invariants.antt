use Rattle.group_tree.proofs.Common.{◌≡◌, ◌++◌, key_of_pair, keys_below, keys_from}
use Rattle.group_tree.proofs.pages.push_from.Given as goal

abbrev pub invariant-loop-place : goal.invariant-loop-place
invariant-loop-place g l = l.page.items ≡ l.initial.page.items ++ keys_from key_of_pair l.key (keys_below key_of_pair (g.G.Group.key_in l.base l.place) (g.G.Group.listed l.base l.group))
