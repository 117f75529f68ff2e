use Rattle.group_tree.proofs.Common.{refl, rules}
use Rattle.group_tree.proofs.PageLemmas.{each_at, pushed_group, room_for}
use Rattle.group_tree.proofs.pages.push_groups.Goals as goal

pub push_from-requires : goal.push_from-requires
push_from-requires g c =
    let holds = each_at (λ q. g.G.Group.Holds q.0 q.1) c.args.groups.now c.loop-place.place c.index-groups-place.result c.requires.groups c.loop-place-test.true c.index-groups-place.is in
    (search rules, (holds, room_for g.met.G.Group.laws c.args.page.now.items c.args.groups.now c.loop-place.place c.loop-place.page.items c.requires.groups c.loop-place.invariant c.loop-place-test.true c.requires.room))

pub loop-place-preserved : goal.loop-place-preserved
loop-place-preserved g c =
    let p = c.index-groups-place.result in
    pushed_group g.met.G.Group.laws c.args.page.now.items c.args.groups.now c.loop-place.place p c.loop-place.page.items (g.G.Group.listed p.0 p.1) c.push_from.new.page.items c.loop-place-test.true c.index-groups-place.is c.loop-place.invariant refl c.push_from.ensures
