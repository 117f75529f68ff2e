-- The zones are looked at in order, with the weight below each.
use Rattle.part_table.proofs.Common.{◌*◌, ◌≤◌, sum, refl, sym, arith, sum_by_more}
use Rattle.part_table.proofs.ProposalLemmas.{product_small, share_here, share_more, share_all}
use Rattle.part_table.proofs.bounds.share_zone.Goals as goal

pub overflow_mul-goal : goal.overflow_mul-goal
overflow_mul-goal c =
    let small : c.args.shares * sum c.args.weights.now ≤ 16 * 11274289152 = product_small c.args.shares (sum c.args.weights.now) 11274289152 (omega arith) c.requires.weights in
    rw (c.from.ensures, c.total.ensures) (omega (arith, small))

pub loop-zone-init : goal.loop-zone-init
loop-zone-init c = record { left = refl; below = refl }

pub returns-then-goal-from : goal.returns-then-goal-from
returns-then-goal-from c =
    let enough = rw (c.from.ensures, c.total.ensures, c.from-in-loop-zone.ensures, c.loop-zone.invariant.below) at c.if-goal-from.true in
    share_here c.args.weights.now c.args.parts c.args.shares c.loop-zone.zone c.loop-zone-test.true enough c.loop-zone.invariant.left

pub loop-zone-preserved : goal.loop-zone-preserved
loop-zone-preserved c =
    let less = rw (c.from-in-loop-zone.ensures, c.loop-zone.invariant.below, c.from.ensures, c.total.ensures) at c.if-goal-from.false in
    record {
      left = share_more c.args.weights.now c.args.parts c.args.shares c.loop-zone.zone c.loop-zone-test.true less c.loop-zone.invariant.left;
      below = rw (c.loop-zone.invariant.below, c.from-in-loop-zone-2.ensures) (sym (sum_by_more (λ w. w) c.args.weights.now c.loop-zone.zone 0 (omega arith)));
    }

pub returns : goal.returns
returns c = share_all c.args.weights.now c.args.parts c.args.shares c.loop-zone.zone (omega arith) c.loop-zone.invariant.left
