use Rattle.mr_cut.proofs.cuts.+cut.Given as goal

abbrev pub decreases-cut : goal.decreases-cut
decreases-cut g l = goal.size-cut g l
