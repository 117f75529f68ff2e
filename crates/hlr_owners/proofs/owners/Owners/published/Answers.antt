use Rattle.hlr_owners.proofs.Common.{arith, pos, ints, blank_at, CELLS, HasOneSlot, replicate, ℤ}
use Rattle.hlr_owners.proofs.HomeLemmas.{home_at}
use Rattle.hlr_owners.proofs.RegionOwnerLemmas.{each_of_part, state_is}
use Rattle.hlr_owners.proofs.SumLemmas.{nets, few_states, countable, state_within, none_added, added_small, one_added, added_published}
use Rattle.hlr_owners.proofs.owners.Owners.published.Goals as goal

pub loop-owner-init : goal.loop-owner-init
loop-owner-init c = none_added nets _ _ _ (λ k below. let zero = blank_at {A = ℤ} CELLS k (pos 0) in (omega (arith, ints), omega (arith, ints)))

pub add_published-requires : goal.add_published-requires
add_published-requires c =
    let within = rw c.deref-owner-items.ensures.value at c.loop-owner-test.true in
    let is = rw c.deref-owner-items.ensures.value at c.owner-item.is in
    record {
      home = home_at c.self.inside.owners.items c.loop-owner.owner-index c.owner-item.result (rw (← c.self.view_is) at c.requires) within is;
      alone = each_of_part HasOneSlot (λ l. l.holding.desk) c.self.inside.owners.items c.loop-owner.owner-index c.owner-item.result c.self.invariant.1.shares.alone within is;
      sums = λ k below.
          let small = added_small nets _ _ _ _ _ _ (λ state is. is.published)
          (countable _ c.self.invariant.0) (few_states _ c.self.invariant.0) (rw c.deref-owner-items.ensures.value at c.loop-owner.invariant) k below in
          (omega (arith, ints), omega (arith, ints));
    }

pub loop-owner-preserved : goal.loop-owner-preserved
loop-owner-preserved c =
    let within = state_within _ c.self.invariant.0 _ (rw c.deref-owner-items.ensures.value at c.loop-owner-test.true) in
    one_added nets _ _ _ _ _ _ _ (rw c.deref-owner-items.ensures.value within) (state_is c.deref-owner-items.result.now c.loop-owner.owner-index c.owner-item.result c.owner-item.is) c.loop-owner.invariant c.add_published.ensures

pub returns : goal.returns
returns c =
    let past = rw c.deref-owner-items.ensures.value at c.loop-owner-test.false in
    let all = rw c.deref-owner-items.ensures.value at c.loop-owner.invariant in
    rw (← c.self.view_is) (λ k below. added_published _ c.self.invariant.0 _ c.self.invariant.1 k below _ (replicate CELLS (pos 0)) _ (λ j. blank_at {A = ℤ} CELLS j (pos 0)) past all)
