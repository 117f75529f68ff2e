use Rattle.mr_cut.proofs.Common.{rules, arith, ◌-◌, sym, ap, subst, ◌∙◌, IsOrderedBy, key_of_pair}
use Rattle.mr_cut.proofs.JoinLemmas.{AreHigherFirst, higher_first, both_rootless, root_left, root_rows, both_height}
use Rattle.mr_cut.proofs.CountLemmas.{more_fits, IsJoinCount, join_count}
use Rattle.mr_cut.proofs.joins.join.Goals.{After-turned-node, After-root_of_both}
use Rattle.mr_cut.proofs.joins.join.Goals as goal

-- the higher one, and the one to join to it
first : (g : _) (c : After-turned-node g)
    → AreHigherFirst c.side_of-side.result c.args.low.value c.args.high.value c.turned-node.result.0.value
    c.turned-node.result.1.value
first g c =
    let low = c.height.ensures.value ∙ ap (λ s. s.height) c.deref.ensures in
    let high = c.height-2.ensures.value ∙ ap (λ s. s.height) c.deref-2.ensures in
    higher_first _ _ _ _ _ _ _ low high c.side_of-side.ensures c.turned-node.ensures c.requires.low_root
    c.requires.high_root

-- the steps, and the most and the fewest
steps : (g : _) (c : After-root_of_both g)
    → AreHigherFirst c.side_of-side.result c.args.low.value c.args.high.value c.turned-node.result.0.value
    c.turned-node.result.1.value
    → IsJoinCount c.args.low.value c.args.high.value c.root_of_both.result.value (c.args.stock.now - c.root_of_both.new.stock)
    c.args.meter.now c.root_of_both.new.meter
steps g c pair =
    let below = c.join_side-one.ensures in
    join_count _ _ _ c.join_side-one.result.1 _ _ _ _ _ _ pair below.side_joined c.root_of_both.ensures.root below.stock below.fewer
    below.steps c.root_of_both.ensures.stock c.root_of_both.ensures.steps

pub join_side-one-requires : goal.join_side-one-requires
join_side-one-requires g c =
    let pair = first g (goal.at.join_side-one-requires g c).After-turned-node in
    let ordered = subst (IsOrderedBy key_of_pair) (sym pair.list) c.requires.ordered in
    (search rules, (pair.level, (ordered, omega (arith, pair.apart, c.requires.stock))))

pub root_of_both-requires : goal.root_of_both-requires
root_of_both-requires g c =
    let pair = first g (goal.at.root_of_both-requires g c).After-turned-node in
    let whole = both_rootless _ c.join_side-one.result.1 pair c.requires.ordered c.join_side-one.ensures.side_joined in
    (search rules, (whole, omega (arith, pair.apart, c.join_side-one.ensures.stock, c.requires.stock)))

pub returns-clause-root : goal.returns-clause-root
returns-clause-root g c =
    let pair = first g (goal.at.returns-clause-root g c).After-turned-node in
    let whole = both_rootless _ c.join_side-one.result.1 pair c.requires.ordered c.join_side-one.ensures.side_joined in
    root_left _ _ c.join_side-one.result.1 whole c.root_of_both.ensures.root

pub returns-clause-rows : goal.returns-clause-rows
returns-clause-rows g c =
    let pair = first g (goal.at.returns-clause-rows g c).After-turned-node in
    root_rows _ _ _ _ _ _ c.join_side-one.result.1 c.join_side-one.ensures.side_joined c.root_of_both.ensures.root ∙ pair.list

pub returns-clause-height : goal.returns-clause-height
returns-clause-height g c =
    let pair = first g (goal.at.returns-clause-height g c).After-turned-node in
    both_height _ _ _ c.join_side-one.result.1 pair c.join_side-one.ensures.side_joined c.root_of_both.ensures.root

pub returns-clause-stock : goal.returns-clause-stock
returns-clause-stock g c =
    let pair = first g (goal.at.returns-clause-stock g c).After-turned-node in
    omega (arith, pair.apart, c.join_side-one.ensures.stock, c.root_of_both.ensures.stock, more_fits c.join_side-one.result.1)

pub returns-clause-count : goal.returns-clause-count
returns-clause-count g c = (steps g c (first g (goal.at.returns-clause-count g c).After-turned-node)).count

pub returns-clause-no_fewer : goal.returns-clause-no_fewer
returns-clause-no_fewer g c = (steps g c (first g (goal.at.returns-clause-no_fewer g c).After-turned-node)).no_fewer

pub returns-clause-steps : goal.returns-clause-steps
returns-clause-steps g c = (steps g c (first g (goal.at.returns-clause-steps g c).After-turned-node)).most
