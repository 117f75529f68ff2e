use Rattle.mr_cut.proofs.Common.{rules, ◌∙◌}
use Rattle.mr_cut.proofs.SideJoinLemmas.{lone_inner}
use Rattle.mr_cut.proofs.side_joins.lone.Goals as goal

pub build_inner-requires : goal.build_inner-requires
build_inner-requires g c =
    let made = c.empty_inner-inner.ensures in
    let put = c.insert_child.ensures in
    (search rules, (search rules, (lone_inner c.args.height c.empty_inner-inner.result c.insert_child.new.inner c.args.node.value c.requires.above_leaves made.height made.len made.entries put.children put.height put.len put.entries c.requires.node).0))

pub returns-clause-node : goal.returns-clause-node
returns-clause-node g c =
    let made = c.empty_inner-inner.ensures in
    let put = c.insert_child.ensures in
    c.build_inner.ensures.seen ∙ (lone_inner c.args.height c.empty_inner-inner.result c.insert_child.new.inner c.args.node.value c.requires.above_leaves made.height made.len made.entries put.children put.height put.len put.entries c.requires.node).1
