-- A take among all owners: the piece's owner goes, and the part's stands for both.
use Rattle.hlr_owners.proofs.Common.{◌≡◌, ◌∙◌, refl, sym, ℕ, ◌+◌, ◌<◌, List, length, get_or, set, arith, true, Some, subst, Ok, remove, insert, position, Box, Global, position-Some, length-remove, AllZip-long, Touch, piece_index, is_piece, joined, take_answer, Place, Region, Side, Low, High, is_part_there, regions-joined, IsPair, part_index, pair, places, stands, touch, join_edit, joint_region, joint_place, blank, HoldingState, PieceState, IsHolding, IsTaken, out_of, with_outs, PartOwnerState, book_in, desks_in, of_parts, store_in, IsKind, IsPartHome, IsRegionOwner, OwnersState, AreOwners, taker, RegionOwner, Part, Piece}
use Rattle.part_table.specs.declared.region.Place.TheVariants as place
use Rattle.part_table.proofs.PairLemmas.{within}
use Rattle.hlr_owners.proofs.EditLemmas.{LeavesMoved}
use Rattle.hlr_owners.proofs.HalvesLemmas.{Meets, meets_from, meets_touch, taken_in}
use Rattle.hlr_owners.proofs.LendLemmas.{ruled_later}
use Rattle.hlr_owners.proofs.OutLemmas.{none_out, outs-at, outs-remove, outs-set}
use Rattle.hlr_owners.proofs.ListLemmas.{set_same, put_back, other_left, both_edited}
use Rattle.hlr_owners.proofs.PartLemmas.{part_state_home}
use Rattle.hlr_owners.proofs.RegionOwnerLemmas.{IsRegionOwnerIn, parts-remove, parts-kept, ruled_rows, each_in, owner_in, owners_in}
use Rattle.hlr_owners.proofs.ZipLemmas.{zip_set, zip_remove}

-- once the piece's owner is gone
taker_is : (side : Side) (i : ℕ) → taker side (piece_index side i) ≡ i
taker_is Low i = refl
taker_is High i = omega arith

module _ (h : OwnersState) (are : AreOwners h) (n q : ℕ) (side : Side) (j : ℕ) (index : position (is_piece n) h.regions ≡ Some j) (answer : take_answer n q h.regions ≡ Ok side) where
  abbrev two : IsPair n q side h.regions
  two = pair n q side h.regions are.are j index answer

  at : j ≡ piece_index side two.i
  at = stands n q side h.regions are.are j index answer

  inside : (piece_index side two.i < length h.regions) × (part_index side two.i < length h.regions)
  inside = within n q side h.regions are.are j index answer

  placed : ((get_or h.regions (piece_index side two.i) blank).place ≡ place.Piece n) × ((get_or h.regions (part_index side two.i) blank).place ≡ place.Part q)
  placed = places n q side h.regions are.are j index answer

  abbrev piece : Region
  piece = get_or h.regions (piece_index side two.i) blank

  abbrev part : Region
  part = get_or h.regions (part_index side two.i) blank

  long : length h.owners ≡ length h.regions
  long = AllZip-long (IsRegionOwner h.width) h.regions h.owners are.each

  pub piece_there : j < length h.owners
  piece_there = let lt = (position-Some (is_piece n) h.regions j blank index).0 in omega (arith, long)

  -- the owner is a piece
  piece_owner : (s : RegionOwner) → s ≡ get_or h.owners j s → IsRegionOwnerIn h.width (book_in h.owners) piece s
  piece_owner s is = owner_in h are (piece_index side two.i) s (rw at at is) inside.0

  pub taken_is_piece : (l : PartOwnerState) → Part l ≡ get_or h.owners j (Part l) → ⊥
  taken_is_piece l is = subst (λ (one : Place). IsKind one (Part l)) placed.0 (piece_owner (Part l) is).kind

  -- and once it is gone the part has an index
  pub taker_there : taker side j < length (remove h.owners j)
  taker_there =
      let shorter = length-remove h.owners j piece_there in
      rw at (rw (taker_is side two.i) (let less = rw at at shorter in omega (arith, long, two.within)))

  -- owners without the piece
  module _ (s : RegionOwner) (is : s ≡ get_or (remove h.owners j) (taker side j) s) where
    part_at : s ≡ get_or h.owners (part_index side two.i) s
    part_at =
        let left : s ≡ get_or (remove h.owners (piece_index side two.i)) two.i s = rw (at, taker_is side two.i) at is in
        left ∙ other_left side h.owners two.i s (omega (arith, long, two.within))

    part_owner_at : IsRegionOwnerIn h.width (book_in h.owners) part s
    part_owner_at = owner_in h are (part_index side two.i) s part_at inside.1

  pub taker_is_part : (b : Box PieceState Global) → Piece b ≡ get_or (remove h.owners j) (taker side j) (Piece b) → ⊥
  taker_is_part b is = subst (λ (one : Place). IsKind one (Piece b)) placed.1 (part_owner_at (Piece b) is).kind

  pub taker_home : (l : PartOwnerState) → Part l ≡ get_or (remove h.owners j) (taker side j) (Part l) → IsPartHome q h → l.home ≡ true
  taker_home l is home = part_state_home h are q (part_index side two.i) inside.1 (is_part_there q part placed.1) l (part_at (Part l) is) home

  module _ (b : Box PieceState Global) (stood : Piece b ≡ get_or h.owners j (Piece b)) (l : PartOwnerState) (is : Part l ≡ get_or (remove h.owners j) (taker side j) (Part l)) where
    owner : IsRegionOwnerIn h.width (book_in h.owners) part (Part l)
    owner = part_owner_at (Part l) is

    loose : IsRegionOwnerIn h.width (book_in h.owners) piece (Piece b)
    loose = piece_owner (Piece b) stood

    pub taken_width : l.holding.part.width ≡ b.value.part.width
    taken_width = owner.state.is.zones ∙ sym loose.state.is.zones

    meets : Meets side b.value.part l.holding.part
    meets = meets_from side piece part b.value.part l.holding.part (loose.state.is.from, loose.state.is.to) (owner.state.is.from, owner.state.is.to) (touch n q side h.regions are.are j index answer)

    pub taken_touch : Touch l.holding.part b.value.part
    taken_touch = meets_touch side b.value.part l.holding.part meets

    -- a refusal leaves all owners
    pub put_again : (k : HoldingState) (c : Box PieceState Global) → k ≡ l.holding → c ≡ b → insert (set (remove h.owners j) (taker side j) (Part (record l { holding = k }))) j (Piece c) ≡ h.owners
    put_again k c same one = rw (same, one, set_same (remove h.owners j) (taker side j) (Part l) is) (put_back h.owners j (Piece b) piece_there stood)

    module _ (m : PartOwnerState) (taken : IsTaken l.holding b.value m.holding) (keeps : IsHolding m.holding) where
      -- the owners after it
      abbrev melded : List RegionOwner
      melded = set (remove h.owners j) (taker side j) (Part m)

      edited_by : (k i : ℕ) → k ≡ piece_index side i → i + 1 < length h.owners → set (remove h.owners k) (taker side k) (Part m) ≡ remove (set h.owners i (Part m)) (i + 1)
      edited_by k i same lt = rw (same, taker_is side i) (both_edited side h.owners i (Part m) lt)

      melded_is : melded ≡ remove (set h.owners two.i (Part m)) (two.i + 1)
      melded_is = let lt = two.within in edited_by j two.i at (omega (arith, long))

      whole_kind : IsKind (joint_region side piece part).place (Part m)
      whole_kind = rw (joint_place side piece part, placed.1) tt

      taken_owners : AreOwners (record h { regions = joined n q h.regions; owners = melded }) × (book_in melded ≡ book_in h.owners)
      taken_owners = owners_in h are (joined n q h.regions) melded h.spare (regions-joined n q h.regions are.are) (rw (melded_is, join_edit n q side h.regions are.are j index answer)
          (zip_remove (IsRegionOwnerIn h.width (book_in h.owners)) (set h.regions two.i (joint_region side piece part)) (set h.owners two.i (Part m)) (two.i + 1)
          (zip_set (IsRegionOwnerIn h.width (book_in h.owners)) h.regions h.owners two.i (joint_region side piece part) (Part m) (each_in h are) (record {
            kind = whole_kind;
            state = taken_in h.width (book_in h.owners) piece part side b.value l.holding m.holding (ruled_rows h are) loose.state owner.state meets taken keeps;
          }))))

      -- what the parts have stays where it is the taker's as it was
      taken_parts : {X : Type 0} (f : PartOwnerState → X) → f m ≡ f l → of_parts f melded ≡ of_parts f h.owners
      taken_parts f same = parts-kept f (remove h.owners j) (taker side j) l m same is ∙ parts-remove f h.owners j b stood

      taken_desks : desks_in melded ≡ desks_in h.owners
      taken_desks = taken_parts (λ (o : PartOwnerState). o.holding.desk) taken.desk

      taken_store : store_in (record h { regions = joined n q h.regions; owners = melded }) ≡ record (store_in h) { regions = joined n q h.regions }
      taken_store = rw (taken_owners.1, taken_desks) refl

-- it is so whatever those that are out have become
pub all_taken : (h : OwnersState) (are : AreOwners h) (n q : ℕ) (side : Side) (j : ℕ) (index : position (is_piece n) h.regions ≡ Some j) (answer : take_answer n q h.regions ≡ Ok side)
    (b : Box PieceState Global) (stood : Piece b ≡ get_or h.owners j (Piece b)) (l : PartOwnerState) (is : Part l ≡ get_or (remove h.owners j) (taker side j) (Part l)) → IsPartHome q h
    → (k : HoldingState) → IsTaken l.holding b.value k → IsHolding k
    → LeavesMoved h (record h { regions = joined n q h.regions; owners = set (remove h.owners j) (taker side j) (Part (record l { holding = k })) })
all_taken h are n q side j index answer b stood l is home k taken keeps =
    let m : PartOwnerState = record l { holding = k } in
    let was = taker_home h are n q side j index answer l is home in
    record {
      ruled = (taken_owners h are n q side j index answer b stood l is m taken keeps).0;
      desks = taken_desks h are n q side j index answer b stood l is m taken keeps;
      store = taken_store h are n q side j index answer b stood l is m taken keeps;
      alone = record {
        homes = taken_parts h are n q side j index answer b stood l is m taken keeps (λ (o : PartOwnerState). o.home) refl;
        outs = taken_parts h are n q side j index answer b stood l is m taken keeps out_of (none_out l k was);
        same = refl;
        while_out = λ ks become.
            let left = outs-remove h.owners ks j b stood in
            let there = rw left at (outs-at (remove h.owners j) ks (taker side j) (Part l) is was) in
            rw (outs-set (remove h.owners j) ks (taker side j) l m is was, left)
            (taken_store (record h { owners = with_outs h.owners ks }) (ruled_later h (with_outs h.owners ks) are become) n q side j index answer b (outs-at h.owners ks j (Piece b) stood refl) l there m taken keeps);
      };
    }
