use Rattle.group_tree.proofs.Common.{◌∙◌, ◌++◌, ◌∷◌, [], ap, map, get_or, take_all, map_more, take, value_at}
use Rattle.group_tree.proofs.PageLemmas.{many_at, many_found, many_holds}
use Rattle.group_tree.proofs.tree.GroupTree.copy_many.Goals as goal

pub find_in-requires : goal.find_in-requires
find_in-requires g c =
    let all = c.copy_many.ensures ∙ ap (map (λ k. value_at k c.self.inside.groups.rows)) (c.as_slice.ensures.value ∙ c.bases.ensures) in
    let read = c.index-as_slice-place.is ∙ ap (λ l. get_or l c.loop-place.place c.index-as_slice-place.result) c.as_slice-in-loop-place.ensures.value in
    many_holds g.met.G.Group.laws c.self.inside.groups.rows c.self.invariant _ c.index-as_slice-place.result (many_at g.met.G.Group.laws c.self.inside.groups.rows c.args.keys.now c.copy_many.new.found.items c.loop-place.place c.index-as_slice-place.result all c.loop-place-test.true read)

pub loop-place-preserved : goal.loop-place-preserved
loop-place-preserved g c =
    let all = c.copy_many.ensures ∙ ap (map (λ k. value_at k c.self.inside.groups.rows)) (c.as_slice.ensures.value ∙ c.bases.ensures) in
    let read = c.index-as_slice-place.is ∙ ap (λ l. get_or l c.loop-place.place c.index-as_slice-place.result) c.as_slice-in-loop-place.ensures.value in
    let found = many_found g.met.G.Group.laws c.self.inside.groups.rows c.self.invariant (get_or c.args.keys.now c.loop-place.place 0) c.index-as_slice-place.result c.find_in.result
    (many_at g.met.G.Group.laws c.self.inside.groups.rows c.args.keys.now c.copy_many.new.found.items c.loop-place.place c.index-as_slice-place.result all c.loop-place-test.true read) c.find_in.ensures.none c.find_in.ensures.some in
    rw (c.push.ensures.items, c.loop-place.invariant, map_more (λ key. value_at key c.args.self.now.rows) c.args.keys.now c.loop-place.place 0 c.loop-place-test.true)
    (ap (λ r. map (λ key. value_at key c.args.self.now.rows) (take c.loop-place.place c.args.keys.now) ++ r ∷ []) (rw (← c.self.view_is) found))

pub returns : goal.returns
returns g c = c.loop-place.invariant ∙ ap (map (λ key. value_at key c.args.self.now.rows)) (take_all c.loop-place.place c.args.keys.now c.loop-place-test.false)
