use Rattle.group_tree.proofs.Common.{arith, refl, rules}
use Rattle.group_tree.proofs.PageLemmas.{started_few, started_holds, started_none, started_small, started_some}
use Rattle.group_tree.proofs.pages.start_page.Goals as goal

pub returns-in_default-clause-front : goal.returns-in_default-clause-front
returns-in_default-clause-front g c =
    started_none g.met.G.Group.laws c.args.groups.now.rows c.requires.groups c.args.key c.base-base.result c.base-base.ensures c.in_default.ensures c.args.page.now.items c.requires.empty

pub push_from-requires : goal.push_from-requires
push_from-requires g c =
    let holds = started_holds g.met.G.Group.laws c.args.groups.now.rows c.requires.groups c.args.key c.base-base.result c.base-base.ensures c.in-Some.group.now c.in-Some.ensures in
    (search rules, (holds, rw c.requires.empty (omega arith)))

pub overflow_add-result : goal.overflow_add-result
overflow_add-result g c =
    let small = started_small g.met.G.Group.laws c.args.groups.now.rows c.requires.groups c.args.key c.base-base.result c.base-base.ensures c.in-Some.group.now c.in-Some.ensures in
    omega arith

pub returns-clause-few : goal.returns-clause-few
returns-clause-few g c =
    started_few g.met.G.Group.laws c.args.groups.now.rows c.requires.groups c.args.key c.base-base.result c.base-base.ensures c.in-Some.group.now c.in-Some.ensures c.args.page.now.items c.push_from.new.page.items c.requires.empty c.push_from.ensures

pub returns-clause-front : goal.returns-clause-front
returns-clause-front g c =
    started_some g.met.G.Group.laws c.args.groups.now.rows c.requires.groups c.args.key c.base-base.result c.base-base.ensures c.in-Some.group.now c.in-Some.ensures c.args.page.now.items (g.G.Group.listed c.base-base.result c.in-Some.group.now) c.push_from.new.page.items c.requires.empty refl c.push_from.ensures
