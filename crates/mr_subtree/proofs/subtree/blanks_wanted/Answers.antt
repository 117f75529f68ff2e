use Rattle.mr_subtree.proofs.Common.{arith}
use Rattle.mr_subtree.proofs.RootFacts.{low_root}
use Rattle.mr_subtree.proofs.subtree.blanks_wanted.Goals as goal

pub overflow_add-result : goal.overflow_add-result
overflow_add-result g c = omega (arith, low_root c.args.root.now c.requires, c.height-levels.ensures.value)
