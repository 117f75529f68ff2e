use Rattle.hlr_owners.proofs.Common.{◌∙◌, arith, pos, ints, blank_at, CELLS, replicate, ℤ}
use Rattle.hlr_owners.proofs.HomeLemmas.{home_at}
use Rattle.hlr_owners.proofs.RegionOwnerLemmas.{state_is}
use Rattle.hlr_owners.proofs.SumLemmas.{deltas, few_states, countable, state_within, one_countable, none_added, added_small, one_added, added_pending, unposted_is}
use Rattle.hlr_owners.proofs.owners.Owners.unposted.Goals as goal

pub loop-owner-init : goal.loop-owner-init
loop-owner-init c = none_added deltas _ _ _ (λ k below. let zero = blank_at {A = ℤ} CELLS k (pos 0) in (omega (arith, ints), omega (arith, ints)))

pub add_pending-requires : goal.add_pending-requires
add_pending-requires c =
    let within = rw c.deref-owner-items.ensures.value at c.loop-owner-test.true in
    let is = rw c.deref-owner-items.ensures.value at c.owner-item.is in
    record {
      home = home_at c.self.inside.owners.items c.loop-owner.owner-index c.owner-item.result (rw (← c.self.view_is) at c.requires) within is;
      sums = λ k below.
          let small = added_small deltas _ _ _ _ _ _ (λ state is. is.pending)
          (countable _ c.self.invariant.0) (few_states _ c.self.invariant.0) (rw c.deref-owner-items.ensures.value at c.loop-owner.invariant) k below in
          (omega (arith, ints), omega (arith, ints));
      pending = λ k below. let small = (one_countable _ c.self.invariant.0 _ _ within is).pending k below in (omega (arith, ints), omega (arith, ints));
    }

pub loop-owner-preserved : goal.loop-owner-preserved
loop-owner-preserved c =
    let within = state_within _ c.self.invariant.0 _ (rw c.deref-owner-items.ensures.value at c.loop-owner-test.true) in
    one_added deltas _ _ _ _ _ _ _ (rw c.deref-owner-items.ensures.value within) (state_is c.deref-owner-items.result.now c.loop-owner.owner-index c.owner-item.result c.owner-item.is) c.loop-owner.invariant c.add_pending.ensures

pub returns : goal.returns
returns c =
    let past = rw c.deref-owner-items.ensures.value at c.loop-owner-test.false in
    let all = rw c.deref-owner-items.ensures.value at c.loop-owner.invariant in
    let pending = added_pending _ _ (replicate CELLS (pos 0)) _ (λ j. blank_at {A = ℤ} CELLS j (pos 0)) past all in
    rw (← c.self.view_is) (record { pending = pending; difference = λ k below. pending k below ∙ unposted_is _ c.self.invariant.0 _ c.self.invariant.1 k below })
