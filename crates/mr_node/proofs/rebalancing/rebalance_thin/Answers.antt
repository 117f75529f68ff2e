use Rattle.mr_node.proofs.RebalanceLemmas.{rebalanced_near}
use Rattle.mr_node.proofs.rebalancing.rebalance_thin.Goals as goal

pub returns-clause-rebalanced : goal.returns-clause-rebalanced
returns-clause-rebalanced g c = rebalanced_near c.args.place c.pair_of-first.result c.args.inner.now c.join_pair.new.inner c.pair_of-first.ensures.below c.pair_of-first.ensures.near c.requires.loose c.join_pair.ensures.spliced
