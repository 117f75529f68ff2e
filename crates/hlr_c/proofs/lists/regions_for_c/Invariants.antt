use Rattle.hlr_c.proofs.Common.{◌≡◌, length, region_for_c}
use Rattle.hlr_c.proofs.FillLemmas.{filled}
use Rattle.hlr_c.specs.Reports.{no_region}
use Rattle.hlr_c.proofs.lists.regions_for_c.Given as goal

abbrev pub invariant-loop-at : goal.invariant-loop-at
invariant-loop-at l = record {
  wide : length l.regions ≡ 32;
  so_far : l.regions ≡ filled region_for_c no_region 32 l.list l.at;
}
