-- A part lent out, and owners that stand for others while parts are out.
use Rattle.hlr_owners.proofs.Common.{IsWide, ◌≡◌, ◌∙◌, refl, sym, ap, ℕ, zero, suc, ◌<◌, List, [], ◌∷◌, length, get_or, set, arith, true, false, Some, subst, Box, slice_get, position, Option, Global, AllZip, sum_by-cons, map-set_same, nat_tests, position-Some, slice_get_read, is_part, lies_in, IsConsecutive, TableId, Region, blank, HoldingState, PieceState, IsHolding, of_holding, DeskState, AreDesks, HasOneSlot, IsOfBoard, owns_one, PartOwnerState, state_of, states_in, IsRegionOwner, OwnersState, AreOwners, IsSameOwner, IsLaterOwner, IsBackFor, IsLent, desks_in, RegionOwner, Part, Piece}
use Rattle.hlr_owners.proofs.ZipLemmas.{each_while_out, sum_while_out}
use Rattle.hlr_owners.proofs.StateLemmas.{lies_within}
use Rattle.hlr_owners.proofs.DeskLemmas.{same_one}
use Rattle.hlr_owners.proofs.PostedLemmas.{desks_posted}
use Rattle.hlr_owners.proofs.PartLemmas.{ahead, at_ahead, set_ahead}
use Rattle.hlr_owners.proofs.RegionOwnerLemmas.{exchanged, part_kind, owner_is, region_there, region_behind}

pub lent_states : (owners : List RegionOwner) (i : ℕ) (l m : PartOwnerState) → Part l ≡ get_or owners i (Part l) → m.holding ≡ l.holding → states_in (set owners i (Part m)) ≡ states_in owners
lent_states owners i l m is same = map-set_same state_of owners i (Part m) (Part l) (ap of_holding same ∙ ap state_of is)

-- owners with others that stand for them keep the rules
owner_later : (width : ℕ) (r : Region) (s t : RegionOwner) → IsLaterOwner s t → IsRegionOwner width r s → IsRegionOwner width r t
owner_later width r (Part l) (Part m) later is = record {
  kind = part_kind r.place l m is.kind;
  state = record { from = later.0.lo ∙ is.state.from; to = later.0.hi ∙ is.state.to; zones = later.0.width ∙ is.state.zones; keeps = later.1 is.state.keeps };
}
owner_later width r (Piece a) (Piece b) later is = rw later is
owner_later width r s t later is = absurd later

zip_later : (width : ℕ) (regions : List Region) (owners ks : List RegionOwner) → AllZip IsLaterOwner owners ks → AllZip (IsRegionOwner width) regions owners → AllZip (IsRegionOwner width) regions ks
zip_later width [] [] [] later each = tt
zip_later width [] (s ∷ owners) ks later each = absurd each
zip_later width (r ∷ regions) [] ks later each = absurd each
zip_later width (r ∷ regions) (s ∷ owners) (k ∷ ks) later each = (owner_later width r s k later.0 each.0, zip_later width regions owners ks later.1 each.1)
zip_later width regions owners ks later each = absurd later

pub ruled_later : (h : OwnersState) (ks : List RegionOwner) → AreOwners h → AllZip IsLaterOwner h.owners ks → AreOwners (record h { owners = ks })
ruled_later h ks are later = record { are = are.are; each = zip_later h.width h.regions h.owners ks later are.each; zones = are.zones }

-- a desk that another one may stand for
pub record IsLaterDesk (before after : DeskState) : Type 0 where
  pub board : after.board ≡ before.board
  pub owned : after.view.owned ≡ before.view.owned
  pub wide : IsWide before.view → IsWide after.view

desks_zip : (owners ks : List RegionOwner) → AllZip IsLaterOwner owners ks → AllZip IsLaterDesk (desks_in owners) (desks_in ks)
desks_zip [] [] later = tt
desks_zip (Part l ∷ owners) (Part m ∷ ks) later = (record { board = later.0.0.board; owned = later.0.0.owned; wide = later.0.2 }, desks_zip owners ks later.1)
desks_zip (Piece a ∷ owners) (Piece b ∷ ks) later = desks_zip owners ks later.1
desks_zip (s ∷ owners) (k ∷ ks) later = absurd later.0
desks_zip owners ks later = absurd later

-- and their desks share the slots
pub desks_later : (board : TableId) (spare : DeskState) (owners ks : List RegionOwner) → AllZip IsLaterOwner owners ks → AreDesks board spare (desks_in owners) → AreDesks board spare (desks_in ks)
desks_later board spare owners ks later are = record {
  of_board = (are.of_board.0, each_while_out IsLaterDesk (IsOfBoard board) (IsOfBoard board) (λ one other pair is. record { same = pair.board ∙ is.same; wide = pair.wide is.wide }) (desks_in owners) (desks_in ks) (desks_zip owners ks later) are.of_board.1);
  shares = record {
    once = λ slot below. (
        let was = are.shares.once slot below in
        let one = sum_by-cons (owns_one slot) spare (desks_in ks) in
        let other = sum_by-cons (owns_one slot) spare (desks_in owners) in
        let same = sum_while_out IsLaterDesk (owns_one slot) (λ one other pair. rw pair.owned refl) (desks_in owners) (desks_in ks) (desks_zip owners ks later) in
        omega arith);
    alone = each_while_out IsLaterDesk HasOneSlot HasOneSlot (λ one other pair is. same_one one other pair.owned is) (desks_in owners) (desks_in ks) (desks_zip owners ks later) are.shares.alone;
    idle = are.shares.idle;
  };
}

-- each owner may stand for itself
pub later_self : (owners : List RegionOwner) → AllZip IsLaterOwner owners owners
later_self [] = tt
later_self (Part l ∷ owners) = ((record { lo = refl; hi = refl; width = refl; board = refl; owned = refl }, λ lawful. lawful, λ wide. wide), later_self owners)
later_self (Piece b ∷ owners) = (refl, later_self owners)

-- a holding that comes home has a place
back_there : (owners : List RegionOwner) (i : ℕ) (k : HoldingState) → IsBackFor (slice_get owners i) k → (l : PartOwnerState) × (Part l ≡ get_or owners i (Part l)) × (i < length owners) × (l.home ≡ false) × IsSameOwner l.holding k
back_there (Part l ∷ owners) zero k back = (l, refl, omega arith, back.0, back.1)
back_there (s ∷ owners) (suc i) k back = let rest = back_there owners i k back in let lt = rest.2 in (rest.0, rest.1, omega arith, rest.3, rest.4)
back_there owners i k back = absurd back

-- an s_id lies in one region
pub lies_once : (from s_id : ℕ) (regions : List Region) (i j : ℕ) → IsConsecutive from regions → i < length regions → j < length regions
    → lies_in s_id (get_or regions i blank) ≡ true → lies_in s_id (get_or regions j blank) ≡ true → i ≡ j
lies_once from s_id [] i j consecutive lt below one two = absurd (omega arith)
lies_once from s_id (r ∷ regions) zero zero consecutive lt below one two = refl
lies_once from s_id (r ∷ regions) zero (suc j) consecutive lt below one two =
    let behind = region_behind r.hi regions j blank consecutive.2 (omega arith) in
    absurd (omega (arith, (lies_within s_id r one).1, (lies_within s_id (get_or regions j blank) two).0))
lies_once from s_id (r ∷ regions) (suc i) zero consecutive lt below one two =
    let behind = region_behind r.hi regions i blank consecutive.2 (omega arith) in
    absurd (omega (arith, (lies_within s_id r two).1, (lies_within s_id (get_or regions i blank) one).0))
lies_once from s_id (r ∷ regions) (suc i) (suc j) consecutive lt below one two = ap suc (lies_once r.hi s_id regions i j consecutive.2 (omega arith) (omega arith) one two)

-- which is that of its first subscriber
pub back_index : (h : OwnersState) (are : AreOwners h) (k : HoldingState) → IsHolding k → (i j : ℕ) → position (lies_in k.part.lo) h.regions ≡ Some i → IsBackFor (slice_get h.owners j) k → i ≡ j
back_index h are k keeps i j index back =
    let here = position-Some (lies_in k.part.lo) h.regions i blank index in
    let there = back_there h.owners j k back in
    let owner = owner_is h are j (Part there.0) there.1 there.2 in
    let low = owner.state.from in
    let high = owner.state.to in
    let lo = there.4.lo in
    let hi = there.4.hi in
    let some = keeps.rules.range.1 in
    let inside : lies_in k.part.lo (get_or h.regions j blank) ≡ true = grind (arith, nat_tests) in
    lies_once 1 k.part.lo h.regions i j are.are.consecutive here.0 (region_there h are j (Part there.0) there.1 there.2) here.1 inside

pub back_here : (h : OwnersState) (are : AreOwners h) (k : HoldingState) → IsHolding k → (i : ℕ) → position (lies_in k.part.lo) h.regions ≡ Some i → ((j : ℕ) × IsBackFor (slice_get h.owners j) k) → IsBackFor (slice_get h.owners i) k
back_here h are k keeps i index back = subst (λ (n : ℕ). IsBackFor (slice_get h.owners n) k) (sym (back_index h are k keeps i back.0 index back.1)) back.1

-- at home again
pub part_state_is : (m : PartOwnerState) (k : HoldingState) → m.holding ≡ k → m.home ≡ true → Part m ≡ Part (record { holding = k; home = true })
part_state_is m k same home = rw (← same, ← home) refl

module _ (h : OwnersState) (are : AreOwners h) (i : ℕ) (k : HoldingState) (back : IsBackFor (slice_get h.owners i) k) (l : PartOwnerState) (is : Part l ≡ get_or h.owners i (Part l)) where
  facts : (i < length h.owners) × IsBackFor (Some (Part l)) k
  facts =
      let low = (back_there h.owners i k back).2 in
      (low, subst (λ (o : Option RegionOwner). IsBackFor o k) (slice_get_read h.owners (length h.owners) i (Part l) refl low is) back)

  pub home_is : l.home ≡ false
  home_is = facts.1.0

  pub back_ruled : (m : PartOwnerState) → m.holding ≡ k → IsHolding k → AreOwners (record h { owners = set h.owners i (Part m) })
  back_ruled m same keeps = exchanged h are i l m is facts.0 (rw same (facts.1.1.lo, facts.1.1.hi, facts.1.1.width)) (rw same keeps)

  -- the desk that comes home has the slots that went
  pub back_desks : (m : PartOwnerState) (board : TableId) → m.holding ≡ k → IsHolding k → AreDesks board h.spare (desks_in h.owners) → AreDesks board h.spare (desks_in (set h.owners i (Part m)))
  back_desks m board same keeps rules =
      let at = at_ahead (λ (o : PartOwnerState). o.holding.desk) h.owners i l l.holding.desk facts.0 is in
      rw (set_ahead (λ (o : PartOwnerState). o.holding.desk) h.owners i l m facts.0 is)
      (desks_posted board h.spare (desks_in h.owners) (ahead h.owners i) l.holding.desk m.holding.desk at.0 at.1 rules (rw same facts.1.1.board) (rw same facts.1.1.owned) (rw same keeps.wide))

-- a piece is not one that may come home
pub back_piece : (owners : List RegionOwner) (i : ℕ) (k : HoldingState) (b : Box PieceState Global) → IsBackFor (slice_get owners i) k → Piece b ≡ get_or owners i (Piece b) → ⊥
back_piece owners i k b back is = subst (λ (o : Option RegionOwner). IsBackFor o k) (slice_get_read owners (length owners) i (Piece b) refl (back_there owners i k back).2 is) back

-- a part whose holding goes out
pub lent_from : (h : OwnersState) (p i : ℕ) (l m : PartOwnerState) (k : HoldingState) → position (is_part p) h.regions ≡ Some i → i < length h.owners → Part l ≡ get_or h.owners i (Part l)
    → k ≡ l.holding → l.home ≡ true → m ≡ record l { home = false } → IsLent p h k (record h { owners = set h.owners i (Part m) })
lent_from h p i l m k at within is same home gone = record {
  index = i;
  region = at;
  owner = slice_get_read h.owners (length h.owners) i (Part l) refl within is ∙ rw (same, ← home) refl;
  away = rw (gone, ← same) refl;
}
