use Rattle.mr_node.proofs.Common.{subst, IsPairAt}
use Rattle.mr_node.proofs.RebalanceLemmas.{spliced_one, spliced_two}
use Rattle.mr_node.proofs.rebalancing.join_pair.Goals as goal

pub returns-then-share_pair-clause-spliced : goal.returns-then-share_pair-clause-spliced
returns-then-share_pair-clause-spliced g c =
    let b = c.args.inner.now in
    let pair = subst (λ j. IsPairAt c.args.place c.low_of-low.result j b c.share_pair.new.inner) c.if-share_pair.true c.share_pair.ensures.pair in
    spliced_one c.args.place c.low_of-low.result b c.share_pair.new.inner c.take_child.new.inner c.requires.within c.requires.loose pair c.take_child.ensures.height c.take_child.ensures.len c.take_child.ensures.entries c.take_child.ensures.rest

pub returns-else-share_pair-clause-spliced : goal.returns-else-share_pair-clause-spliced
returns-else-share_pair-clause-spliced g c =
    spliced_two c.args.place c.low_of-low.result c.args.inner.now c.share_pair.new.inner c.requires.loose (subst (λ j. IsPairAt c.args.place c.low_of-low.result j c.args.inner.now c.share_pair.new.inner) c.if-share_pair.false c.share_pair.ensures.pair)
