use Rattle.hlr_c.proofs.Common.{◌≡◌, length}
use Rattle.hlr_c.proofs.FillLemmas.{filled}
use Rattle.hlr_c.proofs.lists.bounds_for_c.Given as goal

abbrev pub invariant-loop-at : goal.invariant-loop-at
invariant-loop-at l = record {
  wide : length l.bounds ≡ 15;
  so_far : l.bounds ≡ filled (λ bound. bound) 0 15 l.list l.at;
}
