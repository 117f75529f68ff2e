-- Owners, one for each region, with their rows as one book, and their desks.
use Rattle.std.specs.Prelude.{◌≡◌, ℕ, Bool, true, false, List, [], ◌∷◌, map, ⊤, ◌-◌, ℤ, ◌++◌, Option, Some, None, drop, position, slice_get, slice_set, slice_index_or}
use Rattle.std.specs.List.{AllZip, AllByRecursion}
use Rattle.tatp_actions.specs.Book.{Book}
use Rattle.tatp_actions.specs.Joined.{book_of}
use Rattle.tatp_actions.specs.Part.{IsWidth}
use Rattle.part_table.specs.Region.{is_part}
use Rattle.part_table.specs.Regions.{AreRegions, place_of}
use Rattle.part_table.specs.declared.region.Place.{Place}
use Rattle.part_table.specs.declared.region.Place.TheVariants as place
use Rattle.part_table.specs.declared.region.Region.{Region}
use Rattle.part_table.specs.declared.region.Side.{Side}
use Rattle.part_table.specs.declared.region.Side.TheVariants.{Low, High}
use Rattle.view_board.specs.Desks.{DeskState}
use Rattle.view_board.specs.Views.{IsWide}
use Rattle.holding.specs.Held.{HoldingState}
use Rattle.hlr_owners.specs.Desks.{words_of, slots_in}
use Rattle.hlr_owners.specs.Held.{OwnerState, IsOwnerState, IsLawful, of_holding, of_piece, pending_in}
use Rattle.hlr_owners.specs.Store.{Store}
use Rattle.hlr_owners.specs.PartOwnerState.{PartOwnerState}
use Rattle.hlr_owners.specs.declared.part_owner.RegionOwner.{RegionOwner}
use Rattle.hlr_owners.specs.declared.part_owner.RegionOwner.TheVariants.{Part, Piece}

-- the rows, deltas and view of an owner
abbrev pub state_of : RegionOwner → OwnerState
state_of (Part part_owner_state) = of_holding part_owner_state.holding
state_of (Piece b) = of_piece b.value

-- the rows, deltas and views of all owners, in order
abbrev pub states_in : List RegionOwner → List OwnerState
states_in owners = map state_of owners

-- the rows of all owners as one book
abbrev pub book_in : List RegionOwner → Book
book_in owners = book_of (map (λ (state : OwnerState). state.part) (states_in owners))

-- what a function makes of a part's holding, and nothing for a piece
abbrev pub of_part : {X : Type 0} → (PartOwnerState → X) → RegionOwner → List X
of_part f (Part part_owner_state) = f part_owner_state ∷ []
of_part f (Piece b) = []

-- what a function makes of each part's holding, in order
abbrev pub of_parts : {X : Type 0} → (PartOwnerState → X) → List RegionOwner → List X
of_parts f [] = []
of_parts f (owner ∷ owners) = of_part f owner ++ of_parts f owners

-- the desks of the parts, by their numbers
abbrev pub desks_in : List RegionOwner → List DeskState
desks_in owners = of_parts (λ part_owner_state. part_owner_state.holding.desk) owners

-- the holding of a part, and none of a piece
abbrev pub holding_at : RegionOwner → List HoldingState
holding_at owner = of_part (λ part_owner_state. part_owner_state.holding) owner

-- the holdings of the parts, by their numbers; a lent one is as it was when it was lent
abbrev pub part_holdings : List RegionOwner → List HoldingState
part_holdings owners = of_parts (λ part_owner_state. part_owner_state.holding) owners

-- whether the parts are home, by their numbers
abbrev pub homes_in : List RegionOwner → List Bool
homes_in owners = of_parts (λ part_owner_state. part_owner_state.home) owners

-- what is unposted of a cell: what is pending of it in all of them
abbrev pub unposted : List RegionOwner → ℕ → ℤ
unposted owners c = pending_in (states_in owners) c

-- an owner is home, as a loose piece always is
abbrev pub is_home : RegionOwner → Bool
is_home (Part part_owner_state) = part_owner_state.home
is_home (Piece b) = true

-- the owner of a part's region is a part, and that of a piece's region is a piece
abbrev pub IsKind : Place → RegionOwner → Type 0
IsKind (place.Part p) (Part part_owner_state) = ⊤
IsKind (place.Part p) (Piece b) = ⊥
IsKind (place.Piece n) (Part part_owner_state) = ⊥
IsKind (place.Piece n) (Piece b) = ⊤

-- the owner of a region: it is of the region's kind, and has its rows
pub record IsRegionOwner (width : ℕ) (region : Region) (owner : RegionOwner) : Type 0 where
  pub kind : IsKind region.place owner
  pub state : IsOwnerState width region (state_of owner)

-- the owners in the order of their regions, the desk of the slots that no part has, and the zone width
pub record OwnersState : Type 0 where
  pub regions : List Region
  pub owners : List RegionOwner
  pub spare : DeskState
  pub width : ℕ

-- the store as which they are seen; a lent part is as it was when it was lent
abbrev pub store_in : OwnersState → Store
store_in h = record {
  book = book_in h.owners;
  regions = h.regions;
  words = words_of (h.spare ∷ desks_in h.owners);
  sight = h.spare.view.seen;
  slots = map slots_in (desks_in h.owners);
  width = h.width;
}

-- the rules that all owners keep together
pub record AreOwners (h : OwnersState) : Type 0 where
  pub are : AreRegions h.regions
  pub each : AllZip (IsRegionOwner h.width) h.regions h.owners
  pub zones : IsWidth h.width

-- a part is home; this is also true of a number that no part has
abbrev pub IsPartHome : ℕ → OwnersState → Type 0
IsPartHome part h = slice_index_or (homes_in h.owners) part true ≡ true

-- the owner that has a place is home, as a loose piece always is
abbrev pub IsPlaceHome : Option Place → OwnersState → Type 0
IsPlaceHome (Some (place.Part p)) h = IsPartHome p h
IsPlaceHome (Some (place.Piece n)) h = ⊤
IsPlaceHome None h = ⊤

-- the owner that has a subscriber is home
abbrev pub IsHomeFor : ℕ → OwnersState → Type 0
IsHomeFor s_id h = IsPlaceHome (place_of s_id h.regions) h

-- all parts from one on are home
abbrev pub IsHomeFrom : ℕ → OwnersState → Type 0
IsHomeFrom part h = AllByRecursion (λ (home : Bool). home ≡ true) (drop part (homes_in h.owners))

-- all parts are home
abbrev pub AllHome : List RegionOwner → Type 0
AllHome owners = AllByRecursion (λ (home : Bool). home ≡ true) (homes_in owners)

-- the place of the part that takes a piece, once the piece's own place is gone
abbrev pub taker : Side → ℕ → ℕ
taker Low i = i
taker High i = i - 1

-- a holding has the range, the zones, the board and the slots that another one has
pub record IsSameOwner (before after : HoldingState) : Type 0 where
  pub lo : after.part.lo ≡ before.part.lo
  pub hi : after.part.hi ≡ before.part.hi
  pub width : after.part.width ≡ before.part.width
  pub board : after.desk.board ≡ before.desk.board
  pub owned : after.desk.view.owned ≡ before.desk.view.owned

-- a part's holding that was home is lent; the owners keep how it was then, and nothing else changes
pub record IsLent (part : ℕ) (before : OwnersState) (holding : HoldingState) (after : OwnersState) : Type 0 where
  pub index : ℕ
  pub region : position (is_part part) before.regions ≡ Some index
  pub owner : slice_get before.owners index ≡ Some (Part (record { holding = holding; home = true }))
  pub away : after ≡ record before { owners = slice_set before.owners index (Part (record { holding = holding; home = false })) }

-- an owner, and another one that may replace it: for a part, one whose holding is the same owner and keeps the rules if
-- the first one does; for a piece, only the same piece
abbrev pub IsLaterOwner : RegionOwner → RegionOwner → Type 0
IsLaterOwner (Part l) (Part m) =
    IsSameOwner l.holding m.holding × (IsLawful (of_holding l.holding) → IsLawful (of_holding m.holding)) × (IsWide l.holding.desk.view → IsWide m.holding.desk.view)
IsLaterOwner (Part l) (Piece b) = ⊥
IsLaterOwner (Piece a) (Part m) = ⊥
IsLaterOwner (Piece a) (Piece b) = b ≡ a

-- a holding may come home as this owner's: its part is lent, and it is the same owner
abbrev pub IsBackFor : Option RegionOwner → HoldingState → Type 0
IsBackFor (Some (Part l)) k = (l.home ≡ false) × IsSameOwner l.holding k
IsBackFor (Some (Piece b)) k = ⊥
IsBackFor None k = ⊥
