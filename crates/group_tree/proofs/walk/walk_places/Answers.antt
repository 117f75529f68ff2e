use Rattle.group_tree.proofs.Common.{refl}
use Rattle.group_tree.proofs.PlaceLemmas.{all_rows, next_first, no_first}
use Rattle.group_tree.proofs.WalkLemmas.{walked_none, walked_row}
use Rattle.group_tree.proofs.walk.walk_places.Goals.{in-Some, in_default}
use Rattle.group_tree.proofs.walk.walk_places.Goals as goal

pub loop-place-init : goal.loop-place-init
loop-place-init g c = λ holds. rw (no_first g.met.G.Group.laws c.args.base c.args.group.now holds) refl

pub loop-place-preserved : goal.loop-place-preserved
loop-place-preserved g c =
    elim c.match-row_in.branch [
      | in-Some w ↦ λ holds. rw w.so_far-is (walked_row _ _ _ _ (next_first g.met.G.Group.laws c.args.base c.args.group.now holds c.loop-place.place) c.args.so_far.now c.loop-place.so_far (c.loop-place.invariant holds) _ w.in-Some.pair _ (w.in-Some.ensures holds) refl (_, _, refl, w.f.ensures, refl))
      | in_default w ↦ λ holds. rw w.so_far-is (walked_none _ _ _ _ (next_first g.met.G.Group.laws c.args.base c.args.group.now holds c.loop-place.place) c.args.so_far.now c.loop-place.so_far (c.loop-place.invariant holds) (w.in_default.ensures holds))
    ]

pub returns : goal.returns
returns g c = λ holds. rw (← all_rows g.met.G.Group.laws c.args.base c.args.group.now holds c.loop-place.place c.loop-place.auto.place-end c.loop-place-test.false) (c.loop-place.invariant holds)
