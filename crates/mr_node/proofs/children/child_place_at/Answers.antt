use Rattle.mr_node.proofs.Common.{rules, ◌≡◌, length}
use Rattle.mr_node.proofs.SearchLemmas.{child_between}
use Rattle.mr_node.proofs.children.child_place_at.Goals as goal

pub returns-then-is_between : goal.returns-then-is_between
returns-then-is_between g c =
    let b = c.args.inner.now in
    let long : length b.leasts ≡ 32 = search rules in
    child_between c.args.key b.len c.args.guess b.leasts b.children long c.requires.entries (c.is_between.ensures c.if-is_between.true)
