-- One bound after another, each from the zone of the one before it.
use Rattle.part_table.proofs.Common.{◌≡◌, ◌∙◌, ◌+◌, ◌-◌, refl, arith}
use Rattle.part_table.proofs.ProposalLemmas.{max_is, sum_small, next_zone, one_proposed, length_proposed, all_proposed, rising_proposal}
use Rattle.part_table.proofs.regions.Regions.propose.Goals as goal

pub loop-i-init : goal.loop-i-init
loop-i-init c = record { list = c.new-list.ensures; zone = refl }

pub share_zone-requires-clause-weights : goal.share_zone-requires-clause-weights
share_zone-requires-clause-weights c = sum_small c.args.weights.now 352321536 c.requires.weights c.told-weights

pub push-requires : goal.push-requires
push-requires c =
    let count = length_proposed c.args.weights.now c.args.parts c.args.width _ c.loop-i.list.items c.loop-i.invariant.list in
    omega (arith, count)

pub loop-i-preserved : goal.loop-i-preserved
loop-i-preserved c =
    let i = c.loop-i.i in
    let computed = rw (c.max.ensures, max_is (c.loop-i.zone + 1) c.share_zone.result) at c.min-zone.ensures in
    let next = next_zone c.args.weights.now c.args.parts i c.loop-i.zone c.share_zone.result c.min-zone.result c.loop-i.auto.i c.loop-i.invariant.zone c.share_zone.ensures computed in
    let pushed = rw (c.from.ensures, c.from-in-loop-i.ensures) at c.push.ensures.items in
    let same : i + 1 - 1 ≡ i = omega arith in
    record {
      list = pushed ∙ one_proposed c.args.weights.now c.args.parts c.args.width i c.min-zone.result c.loop-i.list.items c.loop-i.auto.i c.loop-i.invariant.list next;
      zone = rw same next;
    }

pub invariant_of-result : goal.invariant_of-result
invariant_of-result c =
    let all = all_proposed c.args.weights.now c.args.parts c.args.width c.loop-i.i c.loop-i.list.items (omega arith) c.loop-i.invariant.list in
    rw all (rising_proposal c.args.weights.now c.args.parts c.args.width c.requires.some_part c.requires.few_parts c.requires.some_width c.requires.small_width)

pub returns : goal.returns
returns c =
    let all = all_proposed c.args.weights.now c.args.parts c.args.width c.loop-i.i c.loop-i.list.items (omega arith) c.loop-i.invariant.list in
    let count = length_proposed c.args.weights.now c.args.parts c.args.width (c.args.parts - 1) c.loop-i.list.items all in
    record {
      value = all;
      rising = rw all (rising_proposal c.args.weights.now c.args.parts c.args.width c.requires.some_part c.requires.few_parts c.requires.some_width c.requires.small_width);
      enough = rw count (omega arith);
    }
