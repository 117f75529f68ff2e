use Rattle.std.proofs.Common.{replicate}
use Rattle.hlr_c.proofs.Common.{◌≡◌, ◌∙◌, ◌++◌, ◌-◌, ap, arith, length, length-set, map-id}
use Rattle.hlr_c.proofs.FillLemmas.{all_filled, one_filled}
use Rattle.hlr_c.proofs.lists.bounds_for_c.Goals as goal

pub loop-at-preserved : goal.loop-at-preserved
loop-at-preserved c = record {
  wide = length-set c.loop-at.bounds c.loop-at.at _ ∙ c.loop-at.invariant.wide;
  so_far = rw c.loop-at.invariant.so_far (one_filled (λ bound. bound) 0 15 c.args.list.now c.loop-at.at 0 c.loop-at-test.true c.requires);
}

pub returns-clause-bounds : goal.returns-clause-bounds
returns-clause-bounds c =
    let list = c.args.list.now in
    let to = c.loop-at.auto.at-end in
    let from = c.loop-at-test.false in
    let end : c.loop-at.at ≡ length list = omega (arith, to, from) in
    rw (c.loop-at.invariant.so_far, end) (all_filled (λ bound. bound) 0 15 list ∙ ap (λ bounds. bounds ++ replicate (15 - length list) 0) (map-id list))
