use Rattle.hlr_owners.proofs.Common.{◌≡◌, ◌∙◌, refl, sym, ap, ℕ, ◌<◌, List, Bool, length, get_or, true, Option, position, All, list_all, position-Some, AllPass-from_list_all, IsWithin, lies_in, IsConsecutive, Region, END, blank, some_index, HasRowsWhileOut, PartOwnerState, HasRowsOf, AreOwners, IsHomeFor, OwnersState, store_in, Part, Some, None}
use Rattle.hlr_owners.proofs.WhileOutLemmas.{rows_while_out}
use Rattle.hlr_owners.proofs.HomeLemmas.{owner_home}
use Rattle.hlr_owners.proofs.LendLemmas.{lies_once}
use Rattle.hlr_owners.proofs.ListingLemmas.{part_rows}
use Rattle.hlr_owners.proofs.owners.Owners.holding_of_all.Goals as goal

-- where an s_id lies is where it is found
lies_there : (s_id : ℕ) (regions : List Region) (i : ℕ) → IsConsecutive 1 regions → IsWithin 1 END s_id → i < length regions → lies_in s_id (get_or regions i blank) ≡ true → position (lies_in s_id) regions ≡ Some i
lies_there s_id regions i consecutive within lt here = found (position (lies_in s_id) regions) refl
  where
    found : (o : Option ℕ) → position (lies_in s_id) regions ≡ o → o ≡ Some i
    found None none = absurd (some_index s_id regions within.0 within.1 consecutive none)
    found (Some j) at = let there = position-Some (lies_in s_id) regions j blank at in ap Some (lies_once 1 s_id regions j i consecutive there.0 lt there.1 here)

-- the part of one of several subscribers who all lie in its region has the rows of all
module _ (h : OwnersState) (are : AreOwners h) (s_id i : ℕ) (at : position (lies_in s_id) h.regions ≡ Some i) (l : PartOwnerState) (is : Part l ≡ get_or h.owners i (Part l)) where
  -- it is at home where the first one's is
  part_home : (s_ids : List ℕ) → 0 < length s_ids → s_id ≡ get_or s_ids 0 0 → All (λ n. IsHomeFor n h) s_ids → l.home ≡ true
  part_home s_ids some first home = owner_home h are s_id i at l is (rw first (home 0 0 some))

  lie_there : (s_ids : List ℕ) (b : Bool) → All (IsWithin 1 END) s_ids → b ≡ true → b ≡ list_all (λ n. lies_in n (get_or h.regions i blank)) s_ids
      → (k d : ℕ) → k < length s_ids → position (lies_in (get_or s_ids k d)) h.regions ≡ Some i
  lie_there s_ids b within passed told = λ k d below.
      let n = get_or s_ids k d in
      let there = position-Some (lies_in s_id) h.regions i blank at in
      let inside = AllPass-from_list_all (λ m. lies_in m (get_or h.regions i blank)) s_ids (sym told ∙ passed) k d below in
      lies_there n h.regions i are.are.consecutive (within k d below) there.0 inside

  rows_of_all : (s_ids : List ℕ) (b : Bool) → All (IsWithin 1 END) s_ids → b ≡ true → b ≡ list_all (λ n. lies_in n (get_or h.regions i blank)) s_ids → All (λ n. HasRowsOf n (store_in h) l.holding) s_ids
  rows_of_all s_ids b within passed told = λ k d below. part_rows h are (get_or s_ids k d) i (lie_there s_ids b within passed told k d below) l is

  rows_of_all_while_out : (s_ids : List ℕ) (b : Bool) → All (IsWithin 1 END) s_ids → b ≡ true → b ≡ list_all (λ n. lies_in n (get_or h.regions i blank)) s_ids → l.home ≡ true → All (λ n. HasRowsWhileOut n h l.holding) s_ids
  rows_of_all_while_out s_ids b within passed told home = λ k d below. rows_while_out h are (get_or s_ids k d) i (lie_there s_ids b within passed told k d below) l is home

pub holding-requires : goal.holding-requires
holding-requires c =
    let first = c.in_ok-first.ensures.item.3 in
    part_home _ c.self.invariant.0 _ _ (rw (← c.self.view_is) at c.owner_of-i.ensures.at) c.in-Part.part_owner (rw c.in-Part.is at c.index.ensures) c.args.s_ids.now first.0 (first.1 0)
    (rw (← c.self.view_is) at c.requires.home)

pub returns-in-Part : goal.returns-in-Part
returns-in-Part c =
    let first = c.in_ok-first.ensures.item.3 in
    let at = rw (← c.self.view_is) at c.owner_of-i.ensures.at in
    let is = rw c.in-Part.is at c.index.ensures in
    let lie = rw c.list.ensures.value at c.all_lie_in.ensures in
    let home = part_home _ c.self.invariant.0 _ _ at c.in-Part.part_owner is c.args.s_ids.now first.0 (first.1 0) (rw (← c.self.view_is) at c.requires.home) in
    rw (← c.self.view_is, c.holding.ensures.value) (record {
      home = rows_of_all _ c.self.invariant.0 _ _ at c.in-Part.part_owner is c.args.s_ids.now c.all_lie_in.result c.requires.within c.if-not-all_lie_in.false lie;
      while_out = rows_of_all_while_out _ c.self.invariant.0 _ _ at c.in-Part.part_owner is c.args.s_ids.now c.all_lie_in.result c.requires.within c.if-not-all_lie_in.false lie home;
    })
