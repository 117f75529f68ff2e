use Rattle.mr_node.proofs.node.Node.+revise_row.Given as goal

abbrev pub decreases-revise_row : goal.decreases-revise_row
decreases-revise_row g l = goal.size-revise_row g l
