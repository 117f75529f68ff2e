use Rattle.mr_node.proofs.Common.{rules, ◌≡◌, length}
use Rattle.mr_node.proofs.MoveLemmas.{entries_put}
use Rattle.mr_node.proofs.children.put_child.Goals as goal

pub returns-clause-entries : goal.returns-clause-entries
returns-clause-entries g c =
    let b = c.args.inner.now in
    let long : length b.leasts ≡ 32 = search rules in
    let wide : length b.children ≡ 32 = search rules in
    (entries_put b.len c.args.place c.args.least c.args.child b.leasts c.put_key.new.keys b.children c.last_to.new.items c.requires.entries long wide c.requires.room c.requires.within c.put_key.ensures c.last_to.ensures).0

pub returns-clause-children : goal.returns-clause-children
returns-clause-children g c =
    let b = c.args.inner.now in
    let long : length b.leasts ≡ 32 = search rules in
    let wide : length b.children ≡ 32 = search rules in
    (entries_put b.len c.args.place c.args.least c.args.child b.leasts c.put_key.new.keys b.children c.last_to.new.items c.requires.entries long wide c.requires.room c.requires.within c.put_key.ensures c.last_to.ensures).1
