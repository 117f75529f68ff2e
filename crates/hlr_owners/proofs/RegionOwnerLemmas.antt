-- An owner among all: its rows, its desk, and what is done to it.
use Rattle.hlr_owners.proofs.Common.{◌≡◌, ◌∙◌, refl, sym, ap, ℕ, zero, suc, ◌<◌, ◌≤◌, List, [], ◌∷◌, ◌++◌, length, get_or, set, arith, true, false, Some, position, insert, remove, Box, if◌then◌else◌, Global, Refusal, AllByRecursion, AllZip, map-set, position-Some, AllZip-long, get_or-map, s_id_of, IsOutcome, is_in_range, Book, IsRowsOf, IsWithin, Action, RowReply, apart, outcome-low, outcome-high, lies_in, AreRegions, IsConsecutive, Place, Region, END, blank, place_at, DeskState, PieceState, IsHolding, OwnerState, IsOwnerState, of_holding, IsAnswered, is_loose, is_loose_place, PartOwnerState, state_of, states_in, book_in, of_part, of_parts, IsKind, IsRegionOwner, OwnersState, AreOwners, RegionOwner, Part, Piece}
use Rattle.tatp_rows.specs.declared.refusal.Refusal.TheVariants as refusal
use Rattle.tatp_actions.specs.declared.action.RowReply.TheVariants as row_reply
use Rattle.part_table.specs.declared.region.Place.TheVariants as place
use Rattle.hlr_owners.proofs.HeldLemmas.{holding_keeps}
use Rattle.hlr_owners.proofs.HalvesLemmas.{HasRows, IsOwnerIn}
use Rattle.hlr_owners.proofs.StateLemmas.{book_of_states, own_region, state_rows, states_rows, lies_within, book_stays}
use Rattle.hlr_owners.proofs.ListLemmas.{set_same}
use Rattle.hlr_owners.proofs.ZipLemmas.{zip_at, zip_put, zip_from_two, zip_mapped, zip_weaker}

-- the owners beside their regions
pub owned : (width : ℕ) (regions : List Region) (owners : List RegionOwner) → AllZip (IsRegionOwner width) regions owners → AllZip (IsOwnerState width) regions (states_in owners)
owned width regions owners each = zip_mapped state_of (IsRegionOwner width) (IsOwnerState width) (λ r s is. is.state) regions owners each

-- an owner beside a region, of its kind, with its rows in a book
pub record IsRegionOwnerIn (width : ℕ) (book : Book) (region : Region) (owner : RegionOwner) : Type 0 where
  pub kind : IsKind region.place owner
  pub state : IsOwnerIn width book region (state_of owner)

-- of the region's place the kind alone counts
pub placed_in : (width : ℕ) (book : Book) (region : Region) (owner : RegionOwner) (q : Place) → IsKind q owner → IsRegionOwnerIn width book region owner → IsRegionOwnerIn width book (record region { place = q }) owner
placed_in width book region owner q kind is = record {
  kind = kind;
  state = record { is = record { from = is.state.is.from; to = is.state.is.to; zones = is.state.is.zones; keeps = is.state.is.keeps }; has = is.state.has };
}

-- the rows of owners are those of all subscribers, and each owner has those of its region
module _ (h : OwnersState) (are : AreOwners h) where
  pub ruled_rows : IsRowsOf 1 END (book_in h.owners)
  ruled_rows = state_rows h.width 1 h.regions (states_in h.owners) (owned h.width h.regions h.owners are.each) are.are.consecutive

  pub each_in : AllZip (IsRegionOwnerIn h.width (book_in h.owners)) h.regions h.owners
  each_in = zip_from_two state_of (IsRegionOwner h.width) (HasRows (book_in h.owners)) {R = IsRegionOwnerIn h.width (book_in h.owners)}
      (λ r s is has. record { kind = is.kind; state = record { is = is.state; has = has } }) h.regions h.owners are.each
      (states_rows h.width 1 h.regions (states_in h.owners) (owned h.width h.regions h.owners are.each) are.are.consecutive)

  pub owner_in : (i : ℕ) (s : RegionOwner) → s ≡ get_or h.owners i s → i < length h.regions → IsRegionOwnerIn h.width (book_in h.owners) (get_or h.regions i blank) s
  owner_in i s is within = rw is (zip_at (IsRegionOwnerIn h.width (book_in h.owners)) h.regions h.owners i blank s each_in within)

  -- owners that have the same rows beside other regions keep the rules, and have all rows
  pub owners_in : (regions : List Region) (owners : List RegionOwner) (spare : DeskState) → AreRegions regions → AllZip (IsRegionOwnerIn h.width (book_in h.owners)) regions owners
      → AreOwners (record { regions = regions; owners = owners; spare = spare; width = h.width }) × (book_in owners ≡ book_in h.owners)
  owners_in regions owners spare right each = (
    record {
      are = right;
      each = zip_weaker {P = IsRegionOwnerIn h.width (book_in h.owners)} {Q = IsRegionOwner h.width} (λ r s is. record { kind = is.kind; state = is.state.is }) regions owners each;
      zones = are.zones;
    },
    book_stays regions (states_in owners) (book_in h.owners) ruled_rows right.consecutive
        (zip_mapped state_of (IsRegionOwnerIn h.width (book_in h.owners)) (HasRows (book_in h.owners)) (λ r s is. is.state.has) regions owners each),
  )

-- a region with an index lies behind where they begin
pub region_behind : (from : ℕ) (regions : List Region) (i : ℕ) (d : Region) → IsConsecutive from regions → i < length regions → from ≤ (get_or regions i d).lo
region_behind from [] i d consecutive lt = absurd (omega arith)
region_behind from (r ∷ regions) zero d consecutive lt = let begins = consecutive.0 in omega arith
region_behind from (r ∷ regions) (suc i) d consecutive lt =
    let rest = region_behind r.hi regions i d consecutive.2 (omega arith) in
    omega (arith, consecutive.0, consecutive.1)

-- an action on an owner is that action on the rows of all
pub acts_at : (width from : ℕ) (regions : List Region) (states : List OwnerState) (i : ℕ) (d : Region) (act : Action) (before after : OwnerState) (answer : RowReply)
    → AllZip (IsOwnerState width) regions states → IsConsecutive from regions → i < length regions → before ≡ get_or states i before → lies_in (s_id_of act) (get_or regions i d) ≡ true
    → IsOutcome act before.part.book answer after.part.book → IsOutcome act (book_of_states states) answer (book_of_states (set states i after))
acts_at width from [] states i d act before after answer each consecutive lt is inside done = absurd (omega arith)
acts_at width from (r ∷ regions) [] i d act before after answer each consecutive lt is inside done = absurd each
acts_at width from (r ∷ regions) (o ∷ states) zero d act before after answer each consecutive lt is inside done =
    let rest = book_of_states states in
    let parts = apart r.lo r.hi END o.part.book rest (own_region width r o each.0) (state_rows width r.hi regions states each.1 consecutive.2) in
    outcome-low r.hi act o.part.book rest after.part.book answer parts (omega (arith, (lies_within (s_id_of act) r inside).1)) (rw (← is) done)
acts_at width from (r ∷ regions) (o ∷ states) (suc i) d act before after answer each consecutive lt is inside done =
    let rest = book_of_states states in
    let parts = apart r.lo r.hi END o.part.book rest (own_region width r o each.0) (state_rows width r.hi regions states each.1 consecutive.2) in
    let behind = region_behind r.hi regions i d consecutive.2 (omega arith) in
    outcome-high r.hi act o.part.book rest (book_of_states (set states i after)) answer parts (omega (arith, (lies_within (s_id_of act) (get_or regions i d) inside).0))
    (acts_at width r.hi regions states i d act before after answer each.1 consecutive.2 (omega arith) is inside done)

loose_part : (p : Place) (l : PartOwnerState) → IsKind p (Part l) → is_loose_place (Some p) ≡ false
loose_part (place.Part p) l kind = refl
loose_part (place.Piece n) l kind = absurd kind

loose_piece : (p : Place) (b : Box PieceState Global) → IsKind p (Piece b) → is_loose_place (Some p) ≡ true
loose_piece (place.Part p) b kind = absurd kind
loose_piece (place.Piece n) b kind = refl

-- what the parts have, after an edit of the owners
module _ {X : Type 0} (f : PartOwnerState → X) where
  pub parts-insert : (owners : List RegionOwner) (j : ℕ) (b : Box PieceState Global) → of_parts f (insert owners j (Piece b)) ≡ of_parts f owners
  parts-insert (s ∷ owners) (suc j) b = ap (λ rest. of_part f s ++ rest) (parts-insert owners j b)
  parts-insert [] zero b = refl
  parts-insert owners j b = refl

  pub parts-remove : (owners : List RegionOwner) (j : ℕ) (b : Box PieceState Global) → Piece b ≡ get_or owners j (Piece b) → of_parts f (remove owners j) ≡ of_parts f owners
  parts-remove [] zero b is = refl
  parts-remove [] (suc j) b is = refl
  parts-remove (s ∷ owners) zero b is = ap (λ (t : RegionOwner). of_part f t ++ of_parts f owners) is
  parts-remove (s ∷ owners) (suc j) b is = ap (λ rest. of_part f s ++ rest) (parts-remove owners j b is)

  pub parts-kept : (owners : List RegionOwner) (k : ℕ) (l m : PartOwnerState) → f m ≡ f l → Part l ≡ get_or owners k (Part l) → of_parts f (set owners k (Part m)) ≡ of_parts f owners
  parts-kept [] k l m same is = refl
  parts-kept (t ∷ owners) zero l m same is = ap (λ x. (x ∷ []) ++ of_parts f owners) same ∙ ap (λ (s : RegionOwner). of_part f s ++ of_parts f owners) is
  parts-kept (t ∷ owners) (suc k) l m same is = ap (λ rest. of_part f t ++ rest) (parts-kept owners k l m same is)

-- the owners after an exchange
pub states-set : (owners : List RegionOwner) (i : ℕ) (s : RegionOwner) → states_in (set owners i s) ≡ set (states_in owners) i (state_of s)
states-set owners i s = map-set state_of owners i s

-- an owner at its index
pub state_is : (owners : List RegionOwner) (i : ℕ) (s : RegionOwner) → s ≡ get_or owners i s → state_of s ≡ get_or (states_in owners) i (state_of s)
state_is owners i s is = ap state_of is ∙ sym (get_or-map state_of owners i s)

-- what holds of each part's holding holds of each owner
pub each_of_part : {X : Type 0} (P : X → Type 0) (f : PartOwnerState → X) (owners : List RegionOwner) (i : ℕ) (s : RegionOwner) → AllByRecursion P (of_parts f owners) → i < length owners → s ≡ get_or owners i s → AllByRecursion P (of_part f s)
each_of_part P f [] i s each within is = absurd (omega arith)
each_of_part P f (Part l ∷ owners) zero s each within is = rw is (each.0, tt)
each_of_part P f (Part l ∷ owners) (suc i) s each within is = each_of_part P f owners i s each.1 (omega arith) is
each_of_part P f (Piece b ∷ owners) zero s each within is = rw is tt
each_of_part P f (Piece b ∷ owners) (suc i) s each within is = each_of_part P f owners i s each (omega arith) is

pub part_kind : (p : Place) (l m : PartOwnerState) → IsKind p (Part l) → IsKind p (Part m)
part_kind (place.Part p) l m kind = tt
part_kind (place.Piece n) l m kind = absurd kind

-- the holding of a part exchanged for one of the same range
module _ (h : OwnersState) (are : AreOwners h) (i : ℕ) (s : RegionOwner) (is : s ≡ get_or h.owners i s) (there : i < length h.owners) where
  pub region_there : i < length h.regions
  region_there = let long = AllZip-long (IsRegionOwner h.width) h.regions h.owners are.each in omega arith

  pub owner_is : IsRegionOwner h.width (get_or h.regions i blank) s
  owner_is = rw is (zip_at (IsRegionOwner h.width) h.regions h.owners i blank s are.each region_there)

pub exchanged : (h : OwnersState) (are : AreOwners h) (i : ℕ) (l m : PartOwnerState) → Part l ≡ get_or h.owners i (Part l) → i < length h.owners
    → (m.holding.part.lo ≡ l.holding.part.lo) × (m.holding.part.hi ≡ l.holding.part.hi) × (m.holding.part.width ≡ l.holding.part.width) → IsHolding m.holding
    → AreOwners (record h { owners = set h.owners i (Part m) })
exchanged h are i l m is there same keeps =
    let owner = owner_is h are i (Part l) is there in
    record {
      are = are.are;
      each = zip_put (IsRegionOwner h.width) h.regions h.owners i blank (Part m) are.each (record {
        kind = part_kind (get_or h.regions i blank).place l m owner.kind;
        state = record { from = same.0 ∙ owner.state.from; to = same.1 ∙ owner.state.to; zones = same.2 ∙ owner.state.zones; keeps = holding_keeps m.holding keeps };
      });
      zones = are.zones;
    }

-- the owner of an s_id
module _ (h : OwnersState) (are : AreOwners h) (s_id i : ℕ) (at : position (lies_in s_id) h.regions ≡ Some i) where
  here : (i < length h.regions) × (lies_in s_id (get_or h.regions i blank) ≡ true) × ((k : ℕ) → k < i → lies_in s_id (get_or h.regions k blank) ≡ false)
  here = position-Some (lies_in s_id) h.regions i blank at

  pub owner_there : i < length h.owners
  owner_there = let long = AllZip-long (IsRegionOwner h.width) h.regions h.owners are.each in let lt = here.0 in omega arith

  module _ (s : RegionOwner) (is : s ≡ get_or h.owners i s) where
    pub owner_within : IsWithin (state_of s).part.lo (state_of s).part.hi s_id
    owner_within =
        let owner = owner_is h are i s is owner_there in
        rw (owner.state.from, owner.state.to) (lies_within s_id (get_or h.regions i blank) here.1)

  -- a loose piece answers that it moves
  module _ (b : Box PieceState Global) (is : Piece b ≡ get_or h.owners i (Piece b)) where
    pub piece_loose : is_loose s_id h.regions ≡ true
    piece_loose = rw (place_at s_id h.regions i blank at) (loose_piece (get_or h.regions i blank).place b (owner_is h are i (Piece b) is owner_there).kind)

    pub piece_answer : (act : Action) (why : Refusal) → why ≡ (if is_in_range act then refusal.Moving else refusal.Field)
        → IsAnswered (is_loose s_id h.regions) act (book_in h.owners) (row_reply.Refused why) (book_in h.owners)
    piece_answer act why told = rw piece_loose (ap row_reply.Refused told, refl)

  module _ (l : PartOwnerState) (is : Part l ≡ get_or h.owners i (Part l)) where
    pub part_not_loose : is_loose s_id h.regions ≡ false
    part_not_loose = rw (place_at s_id h.regions i blank at) (loose_part (get_or h.regions i blank).place l (owner_is h are i (Part l) is owner_there).kind)

    -- what is done to its rows is done to the rows of all
    acted : (m : OwnerState) (act : Action) (answer : RowReply) → s_id_of act ≡ s_id → IsOutcome act l.holding.part.book answer m.part.book
        → IsOutcome act (book_of_states (states_in h.owners)) answer (book_of_states (set (states_in h.owners) i m))
    acted m act answer named done =
        acts_at h.width 1 h.regions (states_in h.owners) i blank act (of_holding l.holding) m answer (owned h.width h.regions h.owners are.each) are.are.consecutive here.0
        (state_is h.owners i (Part l) is) (rw named here.1) done

    pub acted_answer : (m : PartOwnerState) (act : Action) (answer : RowReply) → s_id_of act ≡ s_id → IsOutcome act l.holding.part.book answer m.holding.part.book
        → IsAnswered (is_loose s_id h.regions) act (book_in h.owners) answer (book_in (set h.owners i (Part m)))
    acted_answer m act answer named done = rw (part_not_loose, states-set h.owners i (Part m)) (acted (of_holding m.holding) act answer named done)

    -- and what its rows answer, unchanged, all rows do
    pub read_answer : (act : Action) (answer : RowReply) → s_id_of act ≡ s_id → IsOutcome act l.holding.part.book answer l.holding.part.book → IsOutcome act (book_in h.owners) answer (book_in h.owners)
    read_answer act answer named done = rw (set_same (states_in h.owners) i (of_holding l.holding) (state_is h.owners i (Part l) is)) at (acted (of_holding l.holding) act answer named done)
