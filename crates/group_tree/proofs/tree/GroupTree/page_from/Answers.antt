use Rattle.group_tree.proofs.Common.{◌∙◌, arith, ap, rules, rows_of, ◌++◌}
use Rattle.group_tree.proofs.PageLemmas.{page_holds, whole_page}
use Rattle.group_tree.proofs.tree.GroupTree.page_from.Goals as goal

pub push_groups-requires : goal.push_groups-requires
push_groups-requires g c =
    let fits = c.as_slice.ensures.fits in
    let few = c.start_page-from.ensures.few in
    (search rules, (omega arith, rw c.as_slice.ensures.value (page_holds g.met.G.Group.laws c.self.inside.groups.rows c.page_from.new.page.items c.page_from.ensures.rest c.start_page-from.result c.self.invariant c.page_from.ensures.front)))

pub returns : goal.returns
returns g c =
    rw (← c.self.view_is) (whole_page g.met.G.Group.laws c.self.inside.groups.rows c.page_from.new.page.items c.start_page-from.result c.args.key c.start_page-from.new.page.items c.push_groups.new.page.items c.self.invariant c.page_from.ensures c.start_page-from.ensures.front
    (c.push_groups.ensures ∙ ap (λ gs. c.start_page-from.new.page.items ++ rows_of g.G.Group.listed gs) c.as_slice.ensures.value))
