use Rattle.mr_node.proofs.Common.{arith, drop, take, children_of}
use Rattle.mr_node.proofs.RebalanceLemmas.{AreWidths, widths_at}
use Rattle.mr_node.proofs.rebalancing.pair_width.Goals.{After-child_width-2}
use Rattle.mr_node.proofs.rebalancing.pair_width.Goals as goal

-- both widths
widths : (g : _) (c : After-child_width-2 g) → AreWidths 15 c.child_width.result c.child_width-2.result (take 2 (drop c.args.place (children_of c.args.inner.now)))
widths g c = widths_at 15 c.args.place c.child_width.result c.child_width-2.result c.args.inner.now c.requires.loose c.requires.within c.child_width.ensures c.child_width-2.ensures

pub overflow_add-result : goal.overflow_add-result
overflow_add-result g c = omega (arith, (widths g c).first, (widths g c).second)

pub returns-clause-both : goal.returns-clause-both
returns-clause-both g c = (widths g c).both

pub returns-clause-fits : goal.returns-clause-fits
returns-clause-fits g c = omega (arith, (widths g c).first, (widths g c).second)
