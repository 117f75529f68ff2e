use Rattle.mr_cut.proofs.side_joins.+join_side.Given as goal

abbrev pub decreases-join_side : goal.decreases-join_side
decreases-join_side g l = goal.size-join_side g l
