use Rattle.mr_node.proofs.node.Node.+take_at.Given as goal

abbrev pub decreases-take_at : goal.decreases-take_at
decreases-take_at g l = goal.size-take_at g l
