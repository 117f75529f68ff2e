use Rattle.mr_node.proofs.node.Node.+find_row.Given as goal

abbrev pub decreases-find_row : goal.decreases-find_row
decreases-find_row g l = goal.size-find_row g l
