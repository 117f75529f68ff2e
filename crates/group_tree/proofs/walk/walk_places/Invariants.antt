use Rattle.group_tree.proofs.Common.{WalksRows, key_of_pair, keys_below}
use Rattle.group_tree.proofs.walk.walk_places.Given as goal

abbrev pub invariant-loop-place : goal.invariant-loop-place
invariant-loop-place g l = g.G.Group.Holds l.base l.group → WalksRows (λ a k r b. goal.F-post g l.f a k r tt b) l.initial.so_far (keys_below key_of_pair (g.G.Group.key_in l.base l.place) (g.G.Group.listed l.base l.group)) l.so_far
