use Rattle.hlr_core.proofs.Common.{◌≡◌, ◌+◌, ◌<◌, ◌∙◌, arith, rules, get_or, pos, length, length-set, w64, FitsSigned, to_z-of_z, FIRST_ZONE, weight}
use Rattle.hlr_core.proofs.WeightLemmas.{weights_more, all_weights, weights_small}
use Rattle.hlr_core.proofs.weights.zone_weights.Goals as goal

pub loop-zone-preserved : goal.loop-zone-preserved
loop-zone-preserved c =
    let fits : FitsSigned w64 (get_or c.args.published.now c.from.result (pos 0)) = search rules in
    let is : c.weight_of.result ≡ weight (get_or c.args.published.now (FIRST_ZONE + c.loop-zone.zone) (pos 0)) =
    rw (to_z-of_z w64 (get_or c.args.published.now c.from.result (pos 0)) fits, c.from.ensures) at c.weight_of.ensures in
    let within : c.loop-zone.zone < length c.loop-zone.weights = omega (arith, c.loop-zone.invariant.wide) in
    record {
      wide = length-set _ _ _ ∙ c.loop-zone.invariant.wide;
      so_far = rw (c.from-in-loop-zone.ensures) (weights_more _ _ _ _ within c.loop-zone.invariant.so_far is);
    }

pub returns-clause-value : goal.returns-clause-value
returns-clause-value c = all_weights _ c.loop-zone.zone _ (omega arith) (omega arith) c.loop-zone.invariant.so_far

pub returns-clause-small : goal.returns-clause-small
returns-clause-small c = weights_small _ _ _ (all_weights _ c.loop-zone.zone _ (omega arith) (omega arith) c.loop-zone.invariant.so_far)
