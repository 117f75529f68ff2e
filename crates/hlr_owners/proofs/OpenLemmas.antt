-- The store at opening: a part at home with an empty holding beside each region, one after another.
use Rattle.hlr_owners.proofs.Common.{join_books, Book, empty_book, ◌≡◌, ap, ℕ, ◌+◌, ◌-◌, ◌<◌, ◌≤◌, arith, List, [], ◌∷◌, ◌++◌, length, get_or, take, map, true, ◌∙◌, refl, Ok, AllZip, AllByRecursion, range_with_len, take_more, length-map-range_with_len, IsRange, IsWidth, all_zipped_more, length_parts, no_pieces, within, length_regions, openable, parts_between, can_open, opening_bound, AreRegions, IsConsecutive, Region, OwnerState, of_holding, IsOpened, HoldingState, each_at, suc, take_all, length-map, AllZip-long, piece_number, pieces_of, Place, DeskState, WORDS, opening_from, state_of, states_in, desks_in, AllHome, IsKind, IsRegionOwner, AreOwners, store_in, RegionOwner, Part, Piece}
use Rattle.hlr_owners.proofs.StateLemmas.{book_of_states}
use Rattle.part_table.specs.Opening as table
use Rattle.hlr_owners.proofs.HeldLemmas.{IsFresh, fresh_holding}
use Rattle.part_table.specs.declared.region.Place.TheVariants as place
use Rattle.hlr_owners.proofs.ShareLemmas.{AreShared, shared_words}

-- the bounds between parts at opening
abbrev pub bounds_opened : ℕ → ℕ → List ℕ
bounds_opened parts width = map (opening_bound parts width) (range_with_len 1 (parts - 1))

module _ (parts width : ℕ) (regions : List Region) (can : can_open parts width ≡ true) (is : Ok regions ≡ table.opening parts width) where
  -- they make the regions
  pub regions_are : regions ≡ parts_between 0 1 (bounds_opened parts width)
  regions_are = let told = rw can at is in cc

  -- as many as parts
  pub regions_long : length regions ≡ parts
  regions_long =
      let bounds = bounds_opened parts width in
      let count = length-map-range_with_len (opening_bound parts width) 1 (parts - 1) in
      rw regions_are (omega (arith, (openable parts width can).some_part, ap length (no_pieces 0 1 bounds), length_parts 0 1 bounds, length_regions (parts_between 0 1 bounds)))

  pub regions_few : length regions ≤ 16
  regions_few = let few = (openable parts width can).few_parts in let long = regions_long in omega arith

  pub width_fits : IsWidth width
  width_fits = let fits = openable parts width can in (fits.some_width, fits.small_width)

-- each region is a range of subscribers
ranges_from : (from : ℕ) (regions : List Region) → 1 ≤ from → IsConsecutive from regions → AllByRecursion (λ (region : Region). IsRange region.lo region.hi) regions
ranges_from from [] above consecutive = tt
ranges_from from (region ∷ regions) above consecutive =
    ((omega (arith, consecutive.0), consecutive.1, within region.hi regions consecutive.2), ranges_from region.hi regions (omega (arith, consecutive.0, consecutive.1)) consecutive.2)

pub range_at : (regions : List Region) (i : ℕ) (d : Region) → AreRegions regions → i < length regions → IsRange (get_or regions i d).lo (get_or regions i d).hi
range_at regions i d are below = each_at (λ (region : Region). IsRange region.lo region.hi) regions i d (ranges_from 1 regions (omega arith) are.consecutive) below

-- the first i holdings stand beside the first i regions, each with no row
abbrev pub AreOpened : ℕ → List Region → List OwnerState → ℕ → Type 0
AreOpened width regions holdings i = AllZip (IsFresh width) (take i regions) holdings

pub none_opened : (width : ℕ) (regions : List Region) (holdings : List OwnerState) → holdings ≡ [] → AreOpened width regions holdings 0
none_opened width regions holdings none = rw none tt

pub one_opened : (width i : ℕ) (d : Region) (regions : List Region) (holdings : List OwnerState) (holding : HoldingState) → i < length regions → AreOpened width regions holdings i
    → IsOpened (get_or regions i d) width holding → AreOpened width regions (holdings ++ of_holding holding ∷ []) (i + 1)
one_opened width i d regions holdings holding below each is =
    rw (take_more regions i d below) (all_zipped_more (IsFresh width) (take i regions) holdings (get_or regions i d) (of_holding holding) each (fresh_holding width (get_or regions i d) holding is))

-- fresh owners have no rows
pub opened_book : (width : ℕ) (regions : List Region) (states : List OwnerState) → AllZip (IsFresh width) regions states → book_of_states states ≡ empty_book
opened_book width [] [] each = refl
opened_book width (region ∷ regions) (state ∷ states) each = ap (λ (book : Book). join_books book (book_of_states states)) each.0.no_rows ∙ opened_book width regions states each.1
opened_book width regions states each = absurd each

-- a part that is at home
abbrev pub IsPartOwnerHome : RegionOwner → Type 0
IsPartOwnerHome (Part l) = l.home ≡ true
IsPartOwnerHome (Piece b) = ⊥

-- of parts alone each has a desk
pub desks_long : (owners : List RegionOwner) → AllByRecursion IsPartOwnerHome owners → length (desks_in owners) ≡ length owners
desks_long [] all = refl
desks_long (Part l ∷ owners) all = ap suc (desks_long owners all.1)
desks_long (Piece b ∷ owners) all = absurd all.0

-- and all are at home
pub opened_home : (owners : List RegionOwner) → AllByRecursion IsPartOwnerHome owners → AllHome owners
opened_home [] all = tt
opened_home (Part l ∷ owners) all = (all.0, opened_home owners all.1)
opened_home (Piece b ∷ owners) all = absurd all.0

-- they stand beside regions of parts
owners_fresh : (width : ℕ) (regions : List Region) (owners : List RegionOwner) → pieces_of regions ≡ [] → AllByRecursion IsPartOwnerHome owners → AllZip (IsFresh width) regions (states_in owners) → AllZip (IsRegionOwner width) regions owners
owners_fresh width [] [] none all each = tt
owners_fresh width [] (s ∷ owners) none all each = absurd each
owners_fresh width (r ∷ regions) [] none all each = absurd each
owners_fresh width (r ∷ regions) (s ∷ owners) none all each =
    let both = kind r.place s none all.0 in
    (record { kind = both.0; state = each.0.owned }, owners_fresh width regions owners both.1 all.1 each.1)
  where
    kind : (q : Place) (t : RegionOwner) → piece_number q ++ pieces_of regions ≡ [] → IsPartOwnerHome t → IsKind q t × (pieces_of regions ≡ [])
    kind (place.Part p) (Part l) none home = (tt, none)
    kind (place.Part p) (Piece b) none home = absurd home
    kind (place.Piece n) t none home = absurd cc

module _ (parts width i : ℕ) (regions : List Region) (owners : List RegionOwner) (can : can_open parts width ≡ true) (is : Ok regions ≡ table.opening parts width)
    (each : AreOpened width regions (states_in owners) i) (past : length regions ≤ i) (home : AllByRecursion IsPartOwnerHome owners) where
  all : AllZip (IsFresh width) regions (states_in owners)
  all = rw (take_all i regions past) at each

  pub opened_ruled : (spare : DeskState) → AreRegions regions → AreOwners (record { regions = regions; owners = owners; spare = spare; width = width })
  opened_ruled spare are = record {
    are = are;
    each = owners_fresh width regions owners (rw (regions_are parts width regions can is) (no_pieces 0 1 (bounds_opened parts width))) home all;
    zones = width_fits parts width regions can is;
  }

  long : length (desks_in owners) ≡ parts
  long = omega (arith, AllZip-long (IsFresh width) regions (states_in owners) all, length-map owners state_of, desks_long owners home, regions_long parts width regions can is)

  pub opened_store : (words : List ℕ) (spare : DeskState) → AreShared words spare (desks_in owners) → length words ≡ WORDS
      → store_in (record { regions = regions; owners = owners; spare = spare; width = width }) ≡ opening_from parts width words
  opened_store words spare shared wide =
      rw (opened_book width regions (states_in owners) all, shared_words words spare (desks_in owners) shared wide, shared.slots, shared.seen, long, regions_are parts width regions can is) refl
