-- A divide among all owners: the part's owner exchanged, and that of the new part put in behind it.
use Rattle.hlr_owners.proofs.Common.{Store, MayBecome, store_with, ◌≡◌, ◌∙◌, refl, sym, ap, ℕ, suc, ◌+◌, ◌<◌, ◌≤◌, List, [], ◌∷◌, length, get_or, set, map, true, arith, Some, Ok, position, insert, AllZip-long, TableId, divided, divide_answer, place_raised, is_part, Place, Region, blank, anew_from, zip_anew, IsDivide, divide_from_answer, divided_edit, divide_room, bound_inside, regions-divided, low_half, high_half, region_raised, DeskState, with_view, IsLeastSlot, alone, both, without, SLOTS, HoldingState, IsHolding, IsInside, IsHoldingDivided, AreDesks, slots_in, words_of, PartOwnerState, out_of, with_outs, free_slot, IsDivided, IsWithNew, book_in, desks_in, of_parts, store_in, IsKind, IsRegionOwner, IsHomeFrom, OwnersState, AreOwners, homes_in, RegionOwner, Part}
use Rattle.part_table.specs.declared.region.Place.TheVariants as place
use Rattle.hlr_owners.proofs.HalvesLemmas.{divided_in}
use Rattle.hlr_owners.proofs.HomeLemmas.{first_home, later_home}
use Rattle.hlr_owners.proofs.ListLemmas.{map-insert}
use Rattle.hlr_owners.proofs.LendLemmas.{ruled_later, desks_later}
use Rattle.hlr_owners.proofs.OutLemmas.{none_out, outs-at, outs-set, ahead_behind, parts-insert_part, outs-insert_part, AreHomeFrom}
use Rattle.hlr_owners.proofs.PartLemmas.{ahead, at_number, count_parts, part_number_at, part_owner_at, part_has_place, part_is_home}
use Rattle.hlr_owners.proofs.PartDeskLemmas.{desks_divided, words_divided, slots_new, free, rejoined}
use Rattle.hlr_owners.proofs.RegionOwnerLemmas.{IsRegionOwnerIn, part_kind, parts-kept, placed_in, each_in, owners_in}
use Rattle.hlr_owners.proofs.ZipLemmas.{zip_set, zip_insert}

-- a region's place tells of a part that it is one, so its number may rise
raised_kind : (p : Place) (s : RegionOwner) → IsKind p s → IsKind (place_raised p) s
raised_kind (place.Part p) (Part l) kind = tt
raised_kind p s kind = kind

module _ (h : OwnersState) (are : AreOwners h) (p at : ℕ) (told : ℕ × ℕ × ℕ) (answer : divide_answer p at h.regions ≡ Ok told) where
  dividing : IsDivide p at h.regions told
  dividing = divide_from_answer p at h.regions told are.are answer

  -- there is room for one more
  pub room_for_part : length h.owners < 32
  room_for_part = let long = AllZip-long (IsRegionOwner h.width) h.regions h.owners are.each in omega (arith, divide_room p at h.regions told dividing are.are)

  -- and there are more slots than parts
  pub few_desks : length (desks_in h.owners) < SLOTS
  few_desks =
      let count = count_parts (λ (o : PartOwnerState). o.holding.desk) h.width h.regions h.owners are.each in
      omega (arith, dividing.room)

  module _ (i : ℕ) (index : position (is_part p) h.regions ≡ Some i) (l : PartOwnerState) (is : Part l ≡ get_or h.owners i (Part l)) where
    abbrev region : Region
    region = get_or h.regions i blank

    within : i < length h.owners
    within = part_has_place h are p i index

    owner : IsRegionOwnerIn h.width (book_in h.owners) region (Part l)
    owner = part_owner_at h are p i index (Part l) is

    pub divider_inside : IsInside at l.holding.part
    divider_inside = rw (owner.state.is.from, owner.state.is.to) (bound_inside p at h.regions told dividing are.are i index)

    pub divider_home : IsHomeFrom p h → l.home ≡ true
    divider_home home = part_is_home h are p i index l is (first_home (homes_in h.owners) p home)

    -- the owners with another holding of the part, and a new part behind it
    module _ (m n : PartOwnerState) where
      abbrev owners_with : List RegionOwner
      owners_with = insert (set h.owners i (Part m)) (i + 1) (Part n)

      number_behind : ahead (set h.owners i (Part m)) (i + 1) ≡ p + 1
      number_behind =
          let next : i + 1 ≡ suc i = omega arith in
          let number : suc p ≡ p + 1 = omega arith in
          ap (ahead (set h.owners i (Part m))) next ∙ (ahead_behind h.owners i l m within is ∙ (ap suc (part_number_at h are p i index) ∙ number))

      -- what the parts have: the new one stands behind, where that of the part is as it was
      parts_with : {X : Type 0} (f : PartOwnerState → X) → f m ≡ f l → of_parts f owners_with ≡ insert (of_parts f h.owners) (p + 1) (f n)
      parts_with f same = parts-insert_part f (set h.owners i (Part m)) (i + 1) n ∙ rw (number_behind, parts-kept f h.owners i l m same is) refl

      -- and with what those that are out have become
      outs_with : (ks : List HoldingState) → IsHomeFrom p h → m.home ≡ true → n.home ≡ true → with_outs owners_with ks ≡ insert (set (with_outs h.owners ks) i (Part m)) (i + 1) (Part n)
      outs_with ks home still new =
          let was = divider_home home in
          let next : suc p ≡ p + 1 = omega arith in
          let behind : AreHomeFrom (ahead (set h.owners i (Part m)) (i + 1)) (set h.owners i (Part m)) =
          rw (number_behind, parts-kept (λ (o : PartOwnerState). o.home) h.owners i l m (still ∙ sym was) is, ← next) (later_home (homes_in h.owners) p home) in
          outs-insert_part (set h.owners i (Part m)) ks (i + 1) n new behind ∙ ap (λ (owners : List RegionOwner). insert owners (i + 1) (Part n)) (outs-set h.owners ks i l m is still)

    -- a part that was divided
    module _ (m n : PartOwnerState) (desk : DeskState) (is_divided : IsHoldingDivided at l.holding desk n.holding m.holding) (new : IsHolding n.holding) (kept : IsHolding m.holding) where
      divided_owners : (spare : DeskState) → AreOwners (record { regions = divided p at h.regions; owners = owners_with m n; spare = spare; width = h.width }) × (book_in (owners_with m n) ≡ book_in h.owners)
      divided_owners spare =
          let both = divided_in h.width (book_in h.owners) region l.holding owner.state at m.holding kept p desk n.holding is_divided new in
          owners_in h are (divided p at h.regions) (owners_with m n) spare (regions-divided p at h.regions told dividing are.are i index) (rw (divided_edit p at h.regions i index)
          (zip_insert (IsRegionOwnerIn h.width (book_in h.owners)) (set (anew_from region_raised (i + 1) h.regions) i (low_half at region)) (set h.owners i (Part m)) (i + 1) (high_half p at region) (Part n)
          (zip_set (IsRegionOwnerIn h.width (book_in h.owners)) (anew_from region_raised (i + 1) h.regions) h.owners i (low_half at region) (Part m)
          (zip_anew region_raised (IsRegionOwnerIn h.width (book_in h.owners)) (λ r s in_r. placed_in h.width (book_in h.owners) r s (place_raised r.place) (raised_kind r.place s in_r.kind) in_r) (i + 1) h.regions h.owners (each_in h are))
          (record { kind = part_kind region.place l m owner.kind; state = both.0 })) (record { kind = tt; state = both.1 })))

      -- the new part has the least slot that no part had
      module _ (board : TableId) (rules : AreDesks board h.spare (desks_in h.owners)) (slot : ℕ) (in_board : slot < SLOTS) (least : IsLeastSlot h.spare.view slot) (own : desk ≡ with_view h.spare (alone h.spare.view slot)) where
        number_fits : p + 1 ≤ length (desks_in h.owners)
        number_fits = let fits = (at_number h are p i index (λ (o : PartOwnerState). o.holding.desk) l is l.holding.desk).0 in omega arith

        desks_with : desks_in (owners_with m n) ≡ insert (desks_in h.owners) (p + 1) (with_view h.spare (alone h.spare.view slot))
        desks_with = parts_with m n (λ (o : PartOwnerState). o.holding.desk) is_divided.given.desk ∙ ap (λ (d : DeskState). insert (desks_in h.owners) (p + 1) d) (is_divided.own ∙ own)

        new_desks : AreDesks board (with_view h.spare (without h.spare.view slot)) (desks_in (owners_with m n))
        new_desks = rw desks_with (desks_divided board h.spare (desks_in h.owners) rules slot in_board least (p + 1) number_fits)

        new_words : words_of (with_view h.spare (without h.spare.view slot) ∷ desks_in (owners_with m n)) ≡ words_of (h.spare ∷ desks_in h.owners)
        new_words = rw desks_with (words_divided board h.spare (desks_in h.owners) rules slot in_board least (p + 1) number_fits)

        new_slots : map slots_in (desks_in (owners_with m n)) ≡ insert (map slots_in (desks_in h.owners)) (p + 1) (free_slot (map slots_in (desks_in h.owners)) ∷ [])
        new_slots =
            ap (map slots_in) desks_with ∙ map-insert slots_in (desks_in h.owners) (p + 1) (with_view h.spare (alone h.spare.view slot))
            ∙ ap (λ slots. insert (map slots_in (desks_in h.owners)) (p + 1) slots)
            (slots_new board h.spare (desks_in h.owners) rules slot in_board least ∙ ap (λ s. s ∷ []) (free board h.spare (desks_in h.owners) rules slot in_board least))

        store_divided : IsDivided p at (Ok told) (store_in h) (store_in (record { regions = divided p at h.regions; owners = owners_with m n; spare = with_view h.spare (without h.spare.view slot); width = h.width }))
        store_divided = rw ((divided_owners (with_view h.spare (without h.spare.view slot))).1, new_words, new_slots) refl

-- what a divide and a dissolve leave
pub record LeavesChanged (board : TableId) (right : Store → Store → Type 0) (who : OwnersState → OwnersState → Type 0) (before after : OwnersState) : Type 0 where
  pub ruled : AreOwners after
  pub desks : AreDesks board after.spare (desks_in after.owners)
  pub store : right (store_in before) (store_in after)
  pub homes : who before after
  pub while_out : (holdings : List HoldingState) → MayBecome before.owners holdings → right (store_with before holdings) (store_with after holdings)

module _ (h : OwnersState) (are : AreOwners h) (p at : ℕ) (told : ℕ × ℕ × ℕ) (answer : divide_answer p at h.regions ≡ Ok told) (i : ℕ) (index : position (is_part p) h.regions ≡ Some i) (l : PartOwnerState) (is : Part l ≡ get_or h.owners i (Part l))
    (board : TableId) (rules : AreDesks board h.spare (desks_in h.owners)) (slot : ℕ) (in_board : slot < SLOTS) (least : IsLeastSlot h.spare.view slot) where
  -- it is so whatever those that are out have become, where nobody from the part on is
  pub all_divided : (k : HoldingState) (n : PartOwnerState) (desk : DeskState) → IsHoldingDivided at l.holding desk n.holding k → IsHolding n.holding → IsHolding k → desk ≡ with_view h.spare (alone h.spare.view slot)
      → IsHomeFrom p h → n.home ≡ true → (spare : DeskState) → spare ≡ with_view h.spare (without h.spare.view slot)
      → LeavesChanged board (IsDivided p at (Ok told)) (IsWithNew p) h (record { regions = divided p at h.regions; owners = insert (set h.owners i (Part (record l { holding = k }))) (i + 1) (Part n); spare = spare; width = h.width })
  all_divided k n desk is_divided new kept own home at_home spare left =
      let m : PartOwnerState = record l { holding = k } in
      let was = divider_home h are p at told answer i index l is home in
      rw left (record {
        ruled = (divided_owners h are p at told answer i index l is m n desk is_divided new kept (with_view h.spare (without h.spare.view slot))).0;
        desks = new_desks h are p at told answer i index l is m n desk is_divided new kept board rules slot in_board least own;
        store = store_divided h are p at told answer i index l is m n desk is_divided new kept board rules slot in_board least own;
        homes = record {
          homes = parts_with h are p at told answer i index l is m n (λ (o : PartOwnerState). o.home) refl ∙ rw at_home refl;
          outs = parts_with h are p at told answer i index l is m n out_of (none_out l k was) ∙ rw at_home refl;
          slot = slot;
          least = least;
          spare = refl;
          width = refl;
        };
        while_out = λ ks become.
            rw (outs_with h are p at told answer i index l is m n ks home was at_home)
            (store_divided (record h { owners = with_outs h.owners ks }) (ruled_later h (with_outs h.owners ks) are become) p at told answer i index l (outs-at h.owners ks i (Part l) is was) m n desk is_divided new kept
            board (desks_later board h.spare h.owners (with_outs h.owners ks) become rules) slot in_board least own);
      })

  -- a desk that was split off and joined again leaves the spare one
  pub spare_again : h.spare.view.was_apart ≡ true → (left own back joined : DeskState) → own ≡ with_view h.spare (alone h.spare.view slot) → left ≡ with_view h.spare (without h.spare.view slot) → back ≡ own
      → joined ≡ with_view left (both left.view back.view) → joined ≡ h.spare
  spare_again apart left own back joined is_own is_left same is_joined = is_joined ∙ rw (same, is_own, is_left) (rejoined board h.spare (desks_in h.owners) rules slot in_board least apart)
