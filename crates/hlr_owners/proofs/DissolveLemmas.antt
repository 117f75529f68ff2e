-- A dissolve among all owners: the part's owner goes, and that of the part in front stands for both.
use Rattle.hlr_owners.proofs.DivideLemmas.{LeavesChanged}
use Rattle.hlr_owners.proofs.Common.{◌≡◌, ◌∙◌, refl, sym, ap, ℕ, suc, ◌+◌, ◌-◌, ◌<◌, List, ◌∷◌, length, get_or, set, map, true, arith, Some, Ok, position, insert, remove, option_map, slice_get, Box, Global, slice_get-map, TableId, dissolved, dissolve_answer, place_lowered, is_part, Place, Region, High, blank, anew_from, zip_anew, IsDissolve, dissolve_from_answer, dissolved_edit, part_behind_front, front_index, ranges_meet, regions-dissolved, both_ranges, region_lowered, DeskState, with_view, both, taken_back, HoldingState, PieceState, IsHolding, IsMerged, AreDesks, slots_in, words_of, PartOwnerState, out_of, with_outs, words_back, IsDissolved, IsWithout, slots_of, book_in, desks_in, of_parts, store_in, IsKind, IsHomeFrom, OwnersState, AreOwners, homes_in, RegionOwner, Part, Piece}
use Rattle.part_table.specs.declared.region.Place.TheVariants as place
use Rattle.hlr_owners.proofs.HalvesLemmas.{merged_in}
use Rattle.hlr_owners.proofs.HomeLemmas.{first_home, later_home}
use Rattle.hlr_owners.proofs.ListLemmas.{set_same, put_back, other_left, both_edited, map-remove}
use Rattle.hlr_owners.proofs.LendLemmas.{part_state_is, ruled_later, desks_later}
use Rattle.hlr_owners.proofs.OutLemmas.{none_out, outs-at, outs-set, parts-remove_part, outs-remove_part, AreHomeFrom}
use Rattle.hlr_owners.proofs.PartLemmas.{ahead, get_number, part_number_at, part_owner_at, owner_is_part, part_has_place, part_is_home}
use Rattle.hlr_owners.proofs.PartDeskLemmas.{desks_dissolved, words_dissolved, seen_grows}
use Rattle.hlr_owners.proofs.RegionOwnerLemmas.{IsRegionOwnerIn, part_kind, parts-kept, placed_in, ruled_rows, each_in, owners_in}
use Rattle.hlr_owners.proofs.ZipLemmas.{zip_set, zip_remove}

-- a region's place tells of a part that it is one, so its number may fall
lowered_kind : (p : Place) (s : RegionOwner) → IsKind p s → IsKind (place_lowered p) s
lowered_kind (place.Part p) (Part l) kind = tt
lowered_kind p s kind = kind

-- the spare desk with the one that a holding leaves
abbrev spare_with : DeskState → HoldingState → DeskState
spare_with spare gone = with_view spare (both spare.view (taken_back gone.desk.view gone.slot))

module _ (h : OwnersState) (are : AreOwners h) (p : ℕ) (told : ℕ × ℕ × ℕ) (answer : dissolve_answer p h.regions ≡ Ok told) (i : ℕ) (index : position (is_part p) h.regions ≡ Some i) where
  dissolving : IsDissolve p h.regions told
  dissolving = dissolve_from_answer p h.regions told answer

  behind : 0 < i
  behind = part_behind_front p h.regions told dissolving are.are i index

  front_at : position (is_part (p - 1)) h.regions ≡ Some (i - 1)
  front_at = front_index p h.regions told dissolving are.are i index

  within : i < length h.owners
  within = part_has_place h are p i index

  -- with the part's owner gone, the part in front stands where it stood
  stays : (s : RegionOwner) → s ≡ get_or (remove h.owners i) (i - 1) s → s ≡ get_or h.owners (i - 1) s
  stays s stood =
      let next : i ≡ i - 1 + 1 = omega (arith, behind) in
      stood ∙ (ap (λ k. get_or (remove h.owners k) (i - 1) s) next ∙ other_left High h.owners (i - 1) s (omega (arith, behind, within)))

  pub dissolver_is_part : (b : Box PieceState Global) → Piece b ≡ get_or (remove h.owners i) (i - 1) (Piece b) → ⊥
  dissolver_is_part b stood = owner_is_part h are (p - 1) (i - 1) front_at b (stays (Piece b) stood)

  module _ (l : PartOwnerState) (is : Part l ≡ get_or h.owners i (Part l)) (k : PartOwnerState) (stood : Part k ≡ get_or (remove h.owners i) (i - 1) (Part k)) where
    abbrev part : Region
    part = get_or h.regions i blank

    abbrev front : Region
    front = get_or h.regions (i - 1) blank

    owner : IsRegionOwnerIn h.width (book_in h.owners) part (Part l)
    owner = part_owner_at h are p i index (Part l) is

    front_owner : IsRegionOwnerIn h.width (book_in h.owners) front (Part k)
    front_owner = part_owner_at h are (p - 1) (i - 1) front_at (Part k) (stays (Part k) stood)

    pub dissolver_width : k.holding.part.width ≡ l.holding.part.width
    dissolver_width = front_owner.state.is.zones ∙ sym owner.state.is.zones

    pub dissolver_meets : k.holding.part.hi ≡ l.holding.part.lo
    dissolver_meets = front_owner.state.is.to ∙ ranges_meet p h.regions told dissolving are.are i index ∙ sym owner.state.is.from

    home_behind : IsHomeFrom (p - 1) h → IsHomeFrom p h
    home_behind home =
        let later = dissolving.later in
        let next : suc (p - 1) ≡ p = omega arith in
        rw next at (later_home (homes_in h.owners) (p - 1) home)

    pub dissolver_home : IsHomeFrom (p - 1) h → k.home ≡ true
    dissolver_home home = part_is_home h are (p - 1) (i - 1) front_at k (stays (Part k) stood) (first_home (homes_in h.owners) (p - 1) home)

    pub dissolved_home : IsHomeFrom (p - 1) h → l.home ≡ true
    dissolved_home home = part_is_home h are p i index l is (first_home (homes_in h.owners) p (home_behind home))

    -- a refusal leaves all owners
    pub part_again : (kept : HoldingState) (n : PartOwnerState) → kept ≡ k.holding → n.holding ≡ l.holding → n.home ≡ true → IsHomeFrom (p - 1) h
        → insert (set (remove h.owners i) (i - 1) (Part (record k { holding = kept }))) i (Part n) ≡ h.owners
    part_again kept n same one back home =
        let again : Part n ≡ Part l = part_state_is n l.holding one back ∙ sym (part_state_is l l.holding refl (dissolved_home home)) in
        rw (same, again, set_same (remove h.owners i) (i - 1) (Part k) stood) (put_back h.owners i (Part l) within is)

    -- the owners without the part's, with another holding of the part in front
    module _ (m : PartOwnerState) where
      abbrev owners_without : List RegionOwner
      owners_without = set (remove h.owners i) (i - 1) (Part m)

      without_is : owners_without ≡ remove (set h.owners (i - 1) (Part m)) i
      without_is =
          let next : i - 1 + 1 ≡ i = omega (arith, behind) in
          rw next at (both_edited High h.owners (i - 1) (Part m) (omega (arith, behind, within)))

      -- what the parts have: the part's goes, where that of the one in front is as it was
      parts_without : {X : Type 0} (f : PartOwnerState → X) → f m ≡ f k → of_parts f owners_without ≡ remove (of_parts f h.owners) p
      parts_without f same =
          parts-kept f (remove h.owners i) (i - 1) k m same stood
          ∙ (parts-remove_part f h.owners i l within is ∙ ap (remove (of_parts f h.owners)) (part_number_at h are p i index))

      -- and with what those that are out have become
      outs_without : (ks : List HoldingState) → IsHomeFrom (p - 1) h → m.home ≡ true → with_outs owners_without ks ≡ set (remove (with_outs h.owners ks) i) (i - 1) (Part m)
      outs_without ks home still =
          let from : AreHomeFrom (ahead h.owners i) h.owners = rw (part_number_at h are p i index) (home_behind home) in
          outs-set (remove h.owners i) ks (i - 1) k m stood still ∙ ap (λ (owners : List RegionOwner). set owners (i - 1) (Part m)) (outs-remove_part h.owners ks i l within is from)

    -- a part that was dissolved
    module _ (m : PartOwnerState) (desk : DeskState) (merged : IsMerged k.holding l.holding desk m.holding) (kept : IsHolding m.holding) where
      dissolved_owners : (spare : DeskState) → AreOwners (record { regions = dissolved p h.regions; owners = owners_without m; spare = spare; width = h.width }) × (book_in (owners_without m) ≡ book_in h.owners)
      dissolved_owners spare =
          owners_in h are (dissolved p h.regions) (owners_without m) spare (regions-dissolved p h.regions told dissolving are.are i index) (rw (without_is m, dissolved_edit p h.regions i behind index)
          (zip_remove (IsRegionOwnerIn h.width (book_in h.owners)) (set (anew_from region_lowered (i + 1) h.regions) (i - 1) (both_ranges front part)) (set h.owners (i - 1) (Part m)) i
          (zip_set (IsRegionOwnerIn h.width (book_in h.owners)) (anew_from region_lowered (i + 1) h.regions) h.owners (i - 1) (both_ranges front part) (Part m)
          (zip_anew region_lowered (IsRegionOwnerIn h.width (book_in h.owners)) (λ r s in_r. placed_in h.width (book_in h.owners) r s (place_lowered r.place) (lowered_kind r.place s in_r.kind) in_r) (i + 1) h.regions h.owners (each_in h are))
          (record {
            kind = part_kind front.place k m front_owner.kind;
            state = merged_in h.width (book_in h.owners) front part k.holding l.holding desk m.holding (ruled_rows h are) front_owner.state owner.state dissolver_meets merged kept;
          }))))

      -- its slot is free
      module _ (board : TableId) (rules : AreDesks board h.spare (desks_in h.owners)) (lawful : IsHolding l.holding) where
        desk_at : slice_get (desks_in h.owners) p ≡ Some l.holding.desk
        desk_at = get_number h are p i index (λ (o : PartOwnerState). o.holding.desk) l is

        desks_without : desks_in (owners_without m) ≡ remove (desks_in h.owners) p
        desks_without = parts_without m (λ (o : PartOwnerState). o.holding.desk) merged.taken.desk

        left_desks : AreDesks board (spare_with h.spare l.holding) (desks_in (owners_without m))
        left_desks = rw desks_without (desks_dissolved board h.spare (desks_in h.owners) rules p l.holding.desk desk_at l.holding.slot lawful.slot)

        left_words : words_of (spare_with h.spare l.holding ∷ desks_in (owners_without m)) ≡ words_back (slots_of (store_in h) p) (words_of (h.spare ∷ desks_in h.owners))
        left_words =
            let slots : slots_of (store_in h) p ≡ Some (slots_in l.holding.desk) = slice_get-map slots_in (desks_in h.owners) p ∙ ap (option_map slots_in) desk_at in
            rw (slots, desks_without) (words_dissolved board h.spare (desks_in h.owners) rules p l.holding.desk desk_at l.holding.slot lawful.slot)

        left_slots : map slots_in (desks_in (owners_without m)) ≡ remove (map slots_in (desks_in h.owners)) p
        left_slots = ap (map slots_in) desks_without ∙ map-remove slots_in (desks_in h.owners) p

        store_dissolved : IsDissolved p (Ok told) (store_in h) (store_in (record { regions = dissolved p h.regions; owners = owners_without m; spare = spare_with h.spare l.holding; width = h.width }))
        store_dissolved = (
          rw ((dissolved_owners (spare_with h.spare l.holding)).1, left_words, left_slots) refl,
          seen_grows board h.spare (desks_in h.owners) rules p l.holding.desk desk_at l.holding.slot lawful.slot,
        )

module _ (h : OwnersState) (are : AreOwners h) (p : ℕ) (told : ℕ × ℕ × ℕ) (answer : dissolve_answer p h.regions ≡ Ok told) (i : ℕ) (index : position (is_part p) h.regions ≡ Some i) (l : PartOwnerState) (is : Part l ≡ get_or h.owners i (Part l))
    (board : TableId) (rules : AreDesks board h.spare (desks_in h.owners)) where
  -- it is so whatever those that are out have become, where nobody from the part in front on is
  pub all_dissolved : (k : PartOwnerState) → Part k ≡ get_or (remove h.owners i) (i - 1) (Part k) → (grown : HoldingState) (desk : DeskState) → IsMerged k.holding l.holding desk grown → IsHolding grown → IsHolding l.holding
      → IsHomeFrom (p - 1) h → (spare : DeskState) → spare ≡ with_view h.spare (both h.spare.view desk.view)
      → LeavesChanged board (IsDissolved p (Ok told)) (IsWithout p) h (record { regions = dissolved p h.regions; owners = set (remove h.owners i) (i - 1) (Part (record k { holding = grown })); spare = spare; width = h.width })
  all_dissolved k stood grown desk merged kept lawful home spare joined =
      let m : PartOwnerState = record k { holding = grown } in
      let now : spare ≡ spare_with h.spare l.holding = joined ∙ ap (λ (d : DeskState). with_view h.spare (both h.spare.view d.view)) merged.back in
      let was = dissolver_home h are p told answer i index l is k stood home in
      let desk_there : slice_get (desks_in h.owners) p ≡ Some l.holding.desk = get_number h are p i index (λ (o : PartOwnerState). o.holding.desk) l is in
      let here = dissolved_home h are p told answer i index l is k stood home in
      let back = home_behind h are p told answer i index l is k stood home in
      rw now (record {
        ruled = (dissolved_owners h are p told answer i index l is k stood m desk merged kept (spare_with h.spare l.holding)).0;
        desks = left_desks h are p told answer i index l is k stood m desk merged kept board rules lawful;
        store = store_dissolved h are p told answer i index l is k stood m desk merged kept board rules lawful;
        homes = record {
          homes = parts_without h are p told answer i index l is k stood m (λ (o : PartOwnerState). o.home) refl;
          outs = parts_without h are p told answer i index l is k stood m out_of (none_out k grown was);
          gone = l.holding.desk;
          there = desk_there;
          slot = l.holding.slot;
          least = lawful.slot;
          spare = refl;
          seen = seen_grows board h.spare (desks_in h.owners) rules p l.holding.desk desk_there l.holding.slot lawful.slot;
          width = refl;
        };
        while_out = λ ks become.
            let left = outs-remove_part h.owners ks i l (within h are p told answer i index) is (rw (part_number_at h are p i index) back) in
            rw (outs_without h are p told answer i index l is k stood m ks home was)
            (store_dissolved (record h { owners = with_outs h.owners ks }) (ruled_later h (with_outs h.owners ks) are become) p told answer i index l (outs-at h.owners ks i (Part l) is here)
            k (rw left at (outs-at (remove h.owners i) ks (i - 1) (Part k) stood was)) m desk merged kept board (desks_later board h.spare h.owners (with_outs h.owners ks) become rules) lawful);
      })
