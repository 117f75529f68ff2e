-- The owners of parts, in order: the part with a number has the owner beside its region.
use Rattle.hlr_owners.proofs.Common.{◌≡◌, ◌∙◌, refl, sym, ap, ℕ, zero, suc, ◌+◌, ◌<◌, List, [], ◌∷◌, ◌++◌, length, get_or, set, arith, true, false, Some, None, subst, position, Box, slice_get, Global, AllZip, range_with_len, nat_tests, get_or_past, position-Some, slice_get_read, AllZip-long, is_part, is_part_place, part_number, parts_of, place_of, IsWithin, Place, Region, part_has, past_parts, blank, PieceState, PartOwnerState, book_in, of_part, of_parts, homes_in, IsKind, IsRegionOwner, OwnersState, AreOwners, IsPartHome, RegionOwner, Part, Piece}
use Rattle.hlr_owners.proofs.StateLemmas.{lies_within}
use Rattle.part_table.specs.declared.region.Place.TheVariants as place
use Rattle.hlr_owners.proofs.RegionOwnerLemmas.{IsRegionOwnerIn, owner_in}

-- how many parts stand in front of an index
abbrev pub ahead : List RegionOwner → ℕ → ℕ
ahead [] i = 0
ahead (owner ∷ owners) zero = 0
ahead (Part l ∷ owners) (suc i) = suc (ahead owners i)
ahead (Piece b ∷ owners) (suc i) = ahead owners i

module _ {X : Type 0} (f : PartOwnerState → X) where
  -- what the part at an index has
  pub at_ahead : (owners : List RegionOwner) (i : ℕ) (l : PartOwnerState) (d : X) → i < length owners → Part l ≡ get_or owners i (Part l)
      → (ahead owners i < length (of_parts f owners)) × (f l ≡ get_or (of_parts f owners) (ahead owners i) d)
  at_ahead [] i l d lt is = absurd (omega arith)
  at_ahead (s ∷ owners) zero l d lt is = subst (λ (t : RegionOwner). (0 < length (of_part f t ++ of_parts f owners)) × (f l ≡ get_or (of_part f t ++ of_parts f owners) 0 d)) is (omega arith, refl)
  at_ahead (Part m ∷ owners) (suc i) l d lt is = let rest = at_ahead owners i l d (omega arith) is in let low = rest.0 in (omega arith, rest.1)
  at_ahead (Piece b ∷ owners) (suc i) l d lt is = at_ahead owners i l d (omega arith) is

  -- and another one in its place
  pub set_ahead : (owners : List RegionOwner) (i : ℕ) (l m : PartOwnerState) → i < length owners → Part l ≡ get_or owners i (Part l) → of_parts f (set owners i (Part m)) ≡ set (of_parts f owners) (ahead owners i) (f m)
  set_ahead [] i l m lt is = absurd (omega arith)
  set_ahead (s ∷ owners) zero l m lt is = subst (λ (t : RegionOwner). f m ∷ of_parts f owners ≡ set (of_part f t ++ of_parts f owners) 0 (f m)) is refl
  set_ahead (Part k ∷ owners) (suc i) l m lt is = ap (λ rest. f k ∷ rest) (set_ahead owners i l m (omega arith) is)
  set_ahead (Piece b ∷ owners) (suc i) l m lt is = set_ahead owners i l m (omega arith) is

  -- there are as many as parts
  pub count_parts : (width : ℕ) (regions : List Region) (owners : List RegionOwner) → AllZip (IsRegionOwner width) regions owners → length (of_parts f owners) ≡ length (parts_of regions)
  count_parts width [] [] each = refl
  count_parts width [] (s ∷ owners) each = absurd each
  count_parts width (r ∷ regions) [] each = absurd each
  count_parts width (r ∷ regions) (s ∷ owners) each = one r.place s each.0.kind (count_parts width regions owners each.1)
    where
      one : (q : Place) (t : RegionOwner) → IsKind q t → length (of_parts f owners) ≡ length (parts_of regions) → length (of_part f t ++ of_parts f owners) ≡ length (part_number q ++ parts_of regions)
      one (place.Part p) (Part l) kind rest = ap suc rest
      one (place.Piece n) (Piece b) kind rest = rest
      one q t kind rest = absurd kind

-- the number of the part at an index
number_here : (p a n : ℕ) (q : Place) (others : List ℕ) → is_part_place p q ≡ true → part_number q ++ others ≡ range_with_len a n → a ≡ p
number_here p a zero (place.Part m) others test order = absurd cc
number_here p a (suc n) (place.Part m) others test order =
    let first : m ≡ a = cc in
    let same : m ≡ p = grind (arith, nat_tests) in
    sym first ∙ same
number_here p a n (place.Piece m) others test order = absurd cc

number_behind : (a n : ℕ) (q : Place) (s : RegionOwner) (owners : List RegionOwner) (others : List ℕ) (i p : ℕ) → IsKind q s → part_number q ++ others ≡ range_with_len a n
    → ((b m : ℕ) → others ≡ range_with_len b m → b + ahead owners i ≡ p) → a + ahead (s ∷ owners) (suc i) ≡ p
number_behind a zero (place.Part m) (Part l) owners others i p kind order more = absurd cc
number_behind a (suc n) (place.Part m) (Part l) owners others i p kind order more =
    let rest : others ≡ range_with_len (a + 1) n = cc in
    omega (arith, more (a + 1) n rest)
number_behind a n (place.Piece m) (Piece b) owners others i p kind order more = more a n order
number_behind a n q s owners others i p kind order more = absurd kind

number_ahead : (width a n p : ℕ) (regions : List Region) (owners : List RegionOwner) (i : ℕ) → AllZip (IsRegionOwner width) regions owners → parts_of regions ≡ range_with_len a n → i < length regions
    → is_part p (get_or regions i blank) ≡ true → a + ahead owners i ≡ p
number_ahead width a n p [] owners i each order lt is = absurd (omega arith)
number_ahead width a n p (r ∷ regions) [] i each order lt is = absurd each
number_ahead width a n p (r ∷ regions) (s ∷ owners) zero each order lt is = let here = number_here p a n r.place (parts_of regions) is order in omega arith
number_ahead width a n p (r ∷ regions) (s ∷ owners) (suc i) each order lt is =
    number_behind a n r.place s owners (parts_of regions) i p each.0.kind order (λ b m rest. number_ahead width b m p regions owners i each.1 rest (omega arith) is)

-- no part at home has a number behind the last
pub none_home : (h : OwnersState) (are : AreOwners h) (p : ℕ) → position (is_part p) h.regions ≡ None → get_or (homes_in h.owners) p false ≡ false
none_home h are p none =
    let count = count_parts (λ (o : PartOwnerState). o.home) h.width h.regions h.owners are.each in
    get_or_past (homes_in h.owners) p false (omega (arith, past_parts p h.regions are.are none))

-- the owner of a part: beside its region
module _ (h : OwnersState) (are : AreOwners h) (p i : ℕ) (within : i < length h.regions) (of_part_p : is_part p (get_or h.regions i blank) ≡ true) where
  there : i < length h.owners
  there = let long = AllZip-long (IsRegionOwner h.width) h.regions h.owners are.each in omega arith

  -- it stands among those of parts under its number
  pub number_at : ahead h.owners i ≡ p
  number_at = let start : 0 + ahead h.owners i ≡ ahead h.owners i = omega arith in sym start ∙ number_ahead h.width 0 (length (parts_of h.regions)) p h.regions h.owners i are.each are.are.in_order within of_part_p

  -- so it is at home where its part is
  pub part_state_home : (l : PartOwnerState) → Part l ≡ get_or h.owners i (Part l) → IsPartHome p h → l.home ≡ true
  part_state_home l is home = (rw number_at at (at_ahead (λ (o : PartOwnerState). o.home) h.owners i l true there is)).1 ∙ home

-- the owner where no piece is
part_state_there : (owners : List RegionOwner) (i : ℕ) → i < length owners → ((b : Box PieceState Global) → Piece b ≡ get_or owners i (Piece b) → ⊥) → (l : PartOwnerState) × (Part l ≡ get_or owners i (Part l))
part_state_there [] i low none = absurd (omega arith)
part_state_there (Part l ∷ owners) zero low none = (l, refl)
part_state_there (Piece b ∷ owners) zero low none = absurd (none b refl)
part_state_there (s ∷ owners) (suc i) low none = part_state_there owners i (omega arith) none

module _ (h : OwnersState) (are : AreOwners h) (p i : ℕ) (index : position (is_part p) h.regions ≡ Some i) where
  here : (i < length h.regions) × (is_part p (get_or h.regions i blank) ≡ true) × ((k : ℕ) → k < i → is_part p (get_or h.regions k blank) ≡ false)
  here = position-Some (is_part p) h.regions i blank index

  pub part_has_place : i < length h.owners
  part_has_place = there h are p i here.0 here.1

  pub part_number_at : ahead h.owners i ≡ p
  part_number_at = number_at h are p i here.0 here.1

  pub part_owner_at : (s : RegionOwner) → s ≡ get_or h.owners i s → IsRegionOwnerIn h.width (book_in h.owners) (get_or h.regions i blank) s
  part_owner_at s is = owner_in h are i s is here.0

  -- the owner is no piece
  pub owner_is_part : (b : Box PieceState Global) → Piece b ≡ get_or h.owners i (Piece b) → ⊥
  owner_is_part b is = no (get_or h.regions i blank).place here.1 (part_owner_at (Piece b) is).kind
    where
      no : (q : Place) → is_part_place p q ≡ true → IsKind q (Piece b) → ⊥
      no (place.Part q) test kind = kind
      no (place.Piece q) test kind = cc

  -- but a part
  pub part_state_at : (l : PartOwnerState) × (Part l ≡ get_or h.owners i (Part l))
  part_state_at = part_state_there h.owners i part_has_place owner_is_part

  pub part_is_home : (l : PartOwnerState) → Part l ≡ get_or h.owners i (Part l) → IsPartHome p h → l.home ≡ true
  part_is_home = part_state_home h are p i here.0 here.1

  -- it has the subscribers of the part
  pub part_within : (s_id : ℕ) (l : PartOwnerState) → Part l ≡ get_or h.owners i (Part l) → place_of s_id h.regions ≡ Some (place.Part p) → IsWithin l.holding.part.lo l.holding.part.hi s_id
  part_within s_id l is placed =
      let owner = part_owner_at (Part l) is in
      rw (owner.state.is.from, owner.state.is.to) (lies_within s_id (get_or h.regions i blank) (part_has s_id p i h.regions are.are index placed))

  -- what it has stands among what all parts have under its number
  module _ {X : Type 0} (f : PartOwnerState → X) (l : PartOwnerState) (is : Part l ≡ get_or h.owners i (Part l)) where
    pub at_number : (d : X) → (p < length (of_parts f h.owners)) × (f l ≡ get_or (of_parts f h.owners) p d)
    at_number d = let stands = at_ahead f h.owners i l d part_has_place is in rw (number_at h are p i here.0 here.1) at stands

    pub get_number : slice_get (of_parts f h.owners) p ≡ Some (f l)
    get_number = let stands = at_number (f l) in slice_get_read (of_parts f h.owners) (length (of_parts f h.owners)) p (f l) refl stands.0 stands.1

    pub set_number : (m : PartOwnerState) → of_parts f (set h.owners i (Part m)) ≡ set (of_parts f h.owners) p (f m)
    set_number m = rw (number_at h are p i here.0 here.1) at (set_ahead f h.owners i l m part_has_place is)
