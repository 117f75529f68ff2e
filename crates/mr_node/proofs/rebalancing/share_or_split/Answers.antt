use Rattle.mr_node.proofs.Common.{rules, arith, ◌+◌, ◌-◌, ◌≡◌, subst, GIVEN_TO, IsSplitAt}
use Rattle.mr_node.proofs.RebalanceLemmas.{IsGiving, giving_at, loosened, sharing_at, split_given}
use Rattle.mr_node.proofs.rebalancing.share_or_split.Goals.{Then-child_width-le-GIVEN_FROM}
use Rattle.mr_node.proofs.rebalancing.share_or_split.Goals as goal

-- the child before the full one has room for many
giving : (g : _) (c : Then-child_width-le-GIVEN_FROM g) → (c.args.place ≡ c.args.place - 1 + 1) × IsGiving (c.args.place - 1) c.args.place GIVEN_TO c.args.inner.now
giving g c =
    let before : c.args.place ≡ c.args.place - 1 + 1 = omega (arith, c.if-place-gt0.true) in
    (before, giving_at c.args.place (c.args.place - 1) c.child_width.result GIVEN_TO c.args.inner.now c.requires.inner before c.requires.within c.child_width.ensures c.requires.full (omega (arith, c.if-child_width-le-GIVEN_FROM.true)) (omega arith))

pub share_pair-requires : goal.share_pair-requires
share_pair-requires g c =
    let given = (giving g (goal.at.share_pair-requires g c).Then-child_width-le-GIVEN_FROM).1 in
    (search rules, (search rules, (loosened c.args.inner.now c.requires.inner, (given.within, given.share))))

pub returns-then-child_width-le-GIVEN_FROM-clause-split : goal.returns-then-child_width-le-GIVEN_FROM-clause-split
returns-then-child_width-le-GIVEN_FROM-clause-split g c =
    let given = giving g (goal.at.returns-then-child_width-le-GIVEN_FROM-clause-split g c).Then-child_width-le-GIVEN_FROM in
    (c.args.place + 1, omega arith, subst (λ to. IsSplitAt (c.args.place - 1) to c.args.inner.now c.share_pair.new.inner) (omega (arith, given.0)) (split_given c.args.place (c.args.place - 1) GIVEN_TO c.share_pair.result c.args.inner.now c.share_pair.new.inner (omega arith) c.requires.inner given.1 c.share_pair.ensures.pair))

pub returns-then-child_width-le-GIVEN_FROM-clause-made : goal.returns-then-child_width-le-GIVEN_FROM-clause-made
returns-then-child_width-le-GIVEN_FROM-clause-made g c = record { given = 1; each = omega arith; no_fewer = omega (arith, c.share_pair.ensures.steps); no_more = omega (arith, c.share_pair.ensures.steps) }

pub returns-clause-made : goal.returns-clause-made
returns-clause-made g c = record { given = 0; each = omega (arith, c.give.ensures); no_fewer = omega (arith, c.give.ensures, c.tick.ensures); no_more = omega (arith, c.give.ensures, c.tick.ensures) }

pub pair_width-requires : goal.pair_width-requires
pair_width-requires g c = (search rules, (search rules, (loosened c.args.inner.now c.requires.inner, c.in-Some.ensures.within)))

pub share_pair-requires-in-Some : goal.share_pair-requires-in-Some
share_pair-requires-in-Some g c =
    let pair = c.in-Some.ensures in
    let shared = sharing_at c.in-Some.first c.args.place c.pair_width.result c.low_of-low.result c.args.inner.now pair c.pair_width.ensures.both c.low_of-low.ensures.share c.low_of-low.ensures.half in
    (search rules, (search rules, (loosened c.args.inner.now c.requires.inner, (pair.within, shared.0.share))))

pub returns-in-Some-clause-split : goal.returns-in-Some-clause-split
returns-in-Some-clause-split g c =
    let pair = c.in-Some.ensures in
    let shared = sharing_at c.in-Some.first c.args.place c.pair_width.result c.low_of-low.result c.args.inner.now pair c.pair_width.ensures.both c.low_of-low.ensures.share c.low_of-low.ensures.half in
    (c.in-Some.first + 2, omega (arith, pair.near), split_given c.args.place c.in-Some.first c.low_of-low.result c.share_pair-in-Some.result c.args.inner.now c.share_pair-in-Some.new.inner shared.1 c.requires.inner shared.0 c.share_pair-in-Some.ensures.pair)

pub returns-in-Some-clause-made : goal.returns-in-Some-clause-made
returns-in-Some-clause-made g c = record { given = 1; each = omega arith; no_fewer = omega (arith, c.share_pair-in-Some.ensures.steps); no_more = omega (arith, c.share_pair-in-Some.ensures.steps) }
