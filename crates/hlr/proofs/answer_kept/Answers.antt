use Rattle.hlr.proofs.Common.{◌≡◌, sym, subst, ℕ, List, []}
use Rattle.hlr_owners.specs.Owners.{OwnersState, store_in}
use Rattle.hlr_kept.specs.UnderWay.{IsUnchanged, IsUnderWay}
use Rattle.hlr_kept.specs.declared.journaled.Journaled.{Journaled}
use Rattle.hlr_kept.proofs.UnderWayLemmas.{unchanged_ready, unchanged_under_way}
use Rattle.hlr.proofs.answer_kept.Goals as goal

-- what hasn't changed is settled as before
still_settled : {D : Type 0} (seen : D → List ℕ) (may_leave : D → List ℕ → Type 0) (before after : Journaled D) → IsUnchanged before after
    → IsUnderWay seen may_leave (store_in before.register) [] [] before → IsUnderWay seen may_leave (store_in after.register) [] [] after
still_settled seen may_leave before after same was =
    subst (λ (r : OwnersState). IsUnderWay seen may_leave (store_in r) [] [] after) (sym same.register)
    (unchanged_under_way seen may_leave (store_in before.register) [] [] before after same was)

-- a journal that is told when to give way is as ready as before
pub run_journaled-requires : goal.run_journaled-requires
run_journaled-requires c = record {
  ready = unchanged_ready _ _ _ _ c.compact_from.ensures c.in-Ok-open_journaled.ensures.ready;
  settled = still_settled _ _ _ _ c.compact_from.ensures c.in-Ok-open_journaled.ensures.settled;
}
