use Rattle.mr_subtree.proofs.Common.{refl}
use Rattle.mr_subtree.proofs.DescentLemmas.{started}
use Rattle.mr_subtree.proofs.many.leaves.Goals as goal

pub loop-init : goal.loop-init
loop-init g c = started c.args.root.now.rows c.args.keys.now 16 c.args.root c.requires refl

pub loop-preserved : goal.loop-preserved
loop-preserved g c = c.next_nodes-nodes.ensures c.args.root.now.rows c.loop.invariant

pub returns : goal.returns
returns g c = c.loop.invariant
