-- A register taken apart, as a whole: what its holdings and pieces are together, and what is known before anything of
-- it is moved.
use Rattle.std.specs.Prelude.{◌≡◌, ◌≤◌, ℕ, List, Option, None, ℤ, length}
use Rattle.std.specs.Arc.{arc_value}
use Rattle.std.specs.List.{AllByRecursion, AllZip}
use Rattle.tatp_rows.specs.declared.refusal.Refusal.{Refusal}
use Rattle.part_table.specs.Numbered.{numbered}
use Rattle.part_table.specs.Regions.{AreRegions}
use Rattle.part_table.specs.declared.region.Region.{Region}
use Rattle.part_table.specs.declared.region.TheConstants.{MOST_PARTS, MOST_PIECES}
use Rattle.holding.specs.Held.{HoldingState, PieceState, IsHolding, IsPiece}
use Rattle.hlr_owners.specs.Gather.{states_of, ranges_of, MayGather, misfit, gathered}
use Rattle.hlr_owners.specs.Held.{pending_in}
use Rattle.hlr_owners.specs.Boxed.{unboxed}
use Rattle.hlr_owners.specs.Store.{Store}
use Rattle.hlr_owners.specs.Apart.{owners_from}
use Rattle.hlr_owners.specs.Owners.{IsRegionOwner, store_in}
use Rattle.hlr_owners.specs.declared.part_owner.RegionOwner.{RegionOwner}
use Rattle.hlr_owners.specs.declared.scattered.Scattered.{Scattered}

-- the holdings of a register that was taken apart
abbrev pub holdings_in : Scattered → List HoldingState
holdings_in apart = unboxed apart.holdings.items

-- its pieces
abbrev pub pieces_in : Scattered → List PieceState
pieces_in apart = unboxed apart.pieces.items

-- what is pending of a cell in all of them
abbrev pub pending_together : Scattered → ℕ → ℤ
pending_together apart c = pending_in (states_of (holdings_in apart) (pieces_in apart)) c

-- its desks are the board's, and share its slots
abbrev pub MayBeGathered : Scattered → Type 0
MayBeGathered apart = MayGather (arc_value apart.frame.board) apart.frame.spare (holdings_in apart)

-- why it makes no register, memory and numbers aside
abbrev pub misfit_of : Scattered → Option Refusal
misfit_of apart = misfit apart.frame.width (holdings_in apart) (pieces_in apart)

-- the store that it makes
abbrev pub store_from : Scattered → Store
store_from apart = gathered apart.frame.width apart.frame.spare (holdings_in apart) (pieces_in apart)

-- its holdings and pieces as owners, by where their ranges begin
abbrev pub owners_in : Scattered → List RegionOwner
owners_in apart = owners_from (holdings_in apart) apart.pieces.items

-- the store that it is beside regions of which each has its owner, in order
abbrev pub store_by : List Region → Scattered → Store
store_by regions apart = store_in (record { regions = regions; owners = owners_in apart; spare = apart.frame.spare; width = apart.frame.width })

-- they are those of the regions
abbrev pub AreOfRegions : List Region → ℕ → Scattered → Type 0
AreOfRegions regions width apart = AllZip (IsRegionOwner width) regions (owners_in apart)

-- there is a holding, and few of each
pub record AreFew (holdings : List HoldingState) (pieces : List PieceState) : Type 0 where
  pub some : 1 ≤ length holdings
  pub few : length holdings ≤ MOST_PARTS
  pub few_pieces : length pieces ≤ MOST_PIECES

-- the regions over it, and the rules that it keeps
pub record IsSurveyed (apart : Scattered) (regions : List Region) : Type 0 where
  pub fits : misfit_of apart ≡ None
  pub over : regions ≡ numbered 0 1 (ranges_of (holdings_in apart) (pieces_in apart))
  pub right : AreRegions regions
  pub each_holding : AllByRecursion IsHolding (holdings_in apart)
  pub each_piece : AllByRecursion IsPiece (pieces_in apart)
