use Rattle.mr_node.proofs.Common.{refl}
use Rattle.mr_node.proofs.RootLemmas.{inserted_child}
use Rattle.mr_node.proofs.node.insert_child.Goals as goal

pub returns-clause-children : goal.returns-clause-children
returns-clause-children g c = inserted_child c.args.place c.args.inner.now c.put_child.new.inner (c.least-least.result, record { count = c.len-count.result; node = c.args.node }) c.args.node.value c.deref.result.now c.deref-2.result.now c.put_child.ensures.children refl c.deref.ensures c.deref-2.ensures c.requires.node c.least-least.ensures c.len-count.ensures
