use Rattle.hlr_owners.proofs.Common.{arith, ℕ, blank_at, CELLS, ints}
use Rattle.hlr_owners.proofs.HomeLemmas.{home_at}
use Rattle.hlr_owners.proofs.RegionOwnerLemmas.{state_is}
use Rattle.hlr_owners.proofs.SumLemmas.{counts, few_states, countable, state_within, one_countable, none_added, added_small, one_added, added_counts}
use Rattle.hlr_owners.proofs.owners.Owners.recount.Goals as goal

pub loop-owner-init : goal.loop-owner-init
loop-owner-init c = none_added counts _ _ _ (λ k below. let zero = blank_at {A = ℕ} CELLS k 0 in rw c.zero-counts.ensures (omega (arith, ints), omega (arith, ints)))

pub add-requires : goal.add-requires
add-requires c = λ k below.
    let own = one_countable _ c.self.invariant.0 _ _ (rw c.deref-owner-items.ensures.value at c.loop-owner-test.true) (rw c.deref-owner-items.ensures.value at c.owner-item.is) in
    let small = added_small counts _ _ _ _ _ _ (λ state is. is.counted)
    (countable _ c.self.invariant.0) (few_states _ c.self.invariant.0) (rw c.deref-owner-items.ensures.value at c.loop-owner.invariant) k below in
    omega (arith, ints, own.counted k below, c.recount.ensures k below)

pub recount-requires : goal.recount-requires
recount-requires c =
    home_at c.self.inside.owners.items c.loop-owner.owner-index c.owner-item.result (rw (← c.self.view_is) at c.requires) (rw c.deref-owner-items.ensures.value at c.loop-owner-test.true) (rw c.deref-owner-items.ensures.value at c.owner-item.is)

pub loop-owner-preserved : goal.loop-owner-preserved
loop-owner-preserved c =
    let within = state_within _ c.self.invariant.0 _ (rw c.deref-owner-items.ensures.value at c.loop-owner-test.true) in
    one_added counts _ _ _ _ _ _ _ (rw c.deref-owner-items.ensures.value within) (state_is c.deref-owner-items.result.now c.loop-owner.owner-index c.owner-item.result c.owner-item.is) c.loop-owner.invariant
    (λ k below. omega (arith, ints, c.add.ensures k below, c.recount.ensures k below))

pub returns : goal.returns
returns c =
    let past = rw c.deref-owner-items.ensures.value at c.loop-owner-test.false in
    let all = rw c.deref-owner-items.ensures.value at c.loop-owner.invariant in
    rw (← c.self.view_is) (added_counts _ c.self.invariant.0 _ _ _ (λ k. rw c.zero-counts.ensures (blank_at {A = ℕ} CELLS k 0)) past all)
