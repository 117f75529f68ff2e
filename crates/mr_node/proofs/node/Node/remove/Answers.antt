use Rattle.mr_node.proofs.Common.{rules}
use Rattle.mr_node.proofs.node.Node.remove.Goals as goal

pub take_at-requires : goal.take_at-requires
take_at-requires g c = (search rules, c.requires)
