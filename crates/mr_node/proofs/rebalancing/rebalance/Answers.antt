use Rattle.mr_node.proofs.Common.{arith, refl}
use Rattle.mr_node.proofs.RebalanceLemmas.{rebalanced_same, if_thin, if_enough, with_width}
use Rattle.mr_node.proofs.rebalancing.rebalance.Goals as goal

pub returns-then-child_width-ge16-clause-rebalanced : goal.returns-then-child_width-ge16-clause-rebalanced
returns-then-child_width-ge16-clause-rebalanced g c = rebalanced_same c.args.place c.child_width.result c.args.inner.now c.requires.loose c.requires.within c.child_width.ensures c.if-child_width-ge16.true

pub returns-then-child_width-ge16-clause-thin : goal.returns-then-child_width-ge16-clause-thin
returns-then-child_width-ge16-clause-thin g c = with_width _ c.child_width.result _ c.child_width.ensures (λ k width thin. absurd (omega (arith, width, thin, c.if-child_width-ge16.true)))

pub returns-then-child_width-ge16-clause-enough : goal.returns-then-child_width-ge16-clause-enough
returns-then-child_width-ge16-clause-enough g c = if_enough _ _ refl

pub returns-clause-thin : goal.returns-clause-thin
returns-clause-thin g c = if_thin _ _ c.rebalance_thin.ensures.steps

pub returns-clause-enough : goal.returns-clause-enough
returns-clause-enough g c = with_width _ c.child_width.result _ c.child_width.ensures (λ k width enough. absurd (omega (arith, width, enough, c.if-child_width-ge16.false)))
