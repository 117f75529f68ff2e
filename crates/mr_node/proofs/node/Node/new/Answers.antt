use Rattle.mr_node.proofs.EvenLemmas.{blank_leaf}
use Rattle.mr_node.proofs.node.Node.new.Goals as goal

pub returns : goal.returns
returns g c = blank_leaf c.empty_leaf.result c.empty_leaf.ensures.leaf c.empty_leaf.ensures.none
