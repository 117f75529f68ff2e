use Rattle.group_tree.proofs.Common.{◌∙◌, ap, map, value_at}
use Rattle.group_tree.proofs.PageLemmas.{groups_found}
use Rattle.group_tree.proofs.tree.GroupTree.copy_groups.Goals as goal

pub returns : goal.returns
returns g c =
    let all = c.copy_many.ensures ∙ ap (map (λ k. value_at k c.self.inside.groups.rows)) (c.as_slice.ensures.value ∙ c.bases.ensures) in
    rw (← c.self.view_is) (groups_found g.met.G.Group.laws c.self.inside.groups.rows c.self.invariant c.args.keys.now c.copy_many.new.found.items all)
