use Rattle.hlr_c.proofs.Common.{◌≡◌, ◌∙◌, arith, length, length-set, region_for_c}
use Rattle.hlr_c.proofs.FillLemmas.{all_filled, one_filled}
use Rattle.hlr_c.specs.Reports.{no_region}
use Rattle.hlr_c.proofs.lists.regions_for_c.Goals as goal

pub loop-at-preserved : goal.loop-at-preserved
loop-at-preserved c = record {
  wide = length-set c.loop-at.regions c.loop-at.at _ ∙ c.loop-at.invariant.wide;
  so_far = rw (c.loop-at.invariant.so_far, c.region_for_c.ensures) (one_filled region_for_c no_region 32 c.args.list.now c.loop-at.at _ c.loop-at-test.true c.requires);
}

pub returns-clause-regions : goal.returns-clause-regions
returns-clause-regions c =
    let list = c.args.list.now in
    let to = c.loop-at.auto.at-end in
    let from = c.loop-at-test.false in
    let end : c.loop-at.at ≡ length list = omega (arith, to, from) in
    rw (c.loop-at.invariant.so_far, end) (all_filled region_for_c no_region 32 list)
