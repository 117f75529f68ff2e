use Rattle.mr_cut.proofs.CutLemmas.{leaf_halves}
use Rattle.mr_cut.proofs.cuts.halves_of.Goals as goal

pub returns-clause-cut : goal.returns-clause-cut
returns-clause-cut g c = leaf_halves c.args.key c.args.leaf c.cut_leaf-high.new.leaf c.cut_leaf-high.result c.build_leaf-low.result.value c.build_leaf.result.value c.cut_leaf-high.ensures.low c.cut_leaf-high.ensures.high c.cut_leaf-high.ensures.rows c.cut_leaf-high.ensures.below c.cut_leaf-high.ensures.from c.build_leaf-low.ensures.seen c.build_leaf.ensures.seen
