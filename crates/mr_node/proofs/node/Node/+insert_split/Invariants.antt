use Rattle.mr_node.proofs.node.Node.+insert_split.Given as goal

abbrev pub decreases-insert_split : goal.decreases-insert_split
decreases-insert_split g l = goal.size-insert_split g l
