-- The regions of all s_ids, in order: each s_id lies in one of them.
use Rattle.std.specs.Prelude.{◌≡◌, ℕ, ◌<◌, ◌≤◌, ◌==◌, List, [], ◌∷◌, ◌++◌, length, Option, Some, None, if◌then◌else◌}
use Rattle.std.specs.List.{range_with_len, AllByRecursion, IsDistinct}
use Rattle.part_table.specs.Region.{lies_in, part_number, piece_number}
use Rattle.part_table.specs.declared.region.Place.{Place}
use Rattle.part_table.specs.declared.region.Region.{Region}
use Rattle.part_table.specs.declared.region.TheConstants.{END, MOST_PARTS, MOST_PIECES}

-- each region has an s_id and begins where the one before it ends; the first begins at a number, and the last ends
-- behind all s_ids
abbrev pub IsConsecutive : ℕ → List Region → Type 0
IsConsecutive from [] = from ≡ END
IsConsecutive from (region ∷ regions) = (region.lo ≡ from) × (region.lo < region.hi) × IsConsecutive region.hi regions

-- the numbers of the parts, in order
abbrev pub parts_of : List Region → List ℕ
parts_of [] = []
parts_of (region ∷ regions) = part_number region.place ++ parts_of regions

-- the numbers of the loose pieces, in order
abbrev pub pieces_of : List Region → List ℕ
pieces_of [] = []
pieces_of (region ∷ regions) = piece_number region.place ++ pieces_of regions

-- a number of a loose piece is 1..=16
abbrev pub IsPieceNumber : ℕ → Type 0
IsPieceNumber n = (1 ≤ n) × (n ≤ MOST_PIECES)

-- the regions of all s_ids: they follow one another, the parts are numbered in order, and no piece number comes twice
pub record AreRegions (regions : List Region) : Type 0 where
  pub consecutive : IsConsecutive 1 regions
  pub in_order : parts_of regions ≡ range_with_len 0 (length (parts_of regions))
  pub some_part : 1 ≤ length (parts_of regions)
  pub few_parts : length (parts_of regions) ≤ MOST_PARTS
  pub numbered : AllByRecursion IsPieceNumber (pieces_of regions)
  pub distinct : IsDistinct ◌==◌ (pieces_of regions)

-- the place of the first region in which an s_id lies
abbrev pub place_of : ℕ → List Region → Option Place
place_of s_id [] = None
place_of s_id (region ∷ regions) = if lies_in s_id region then Some region.place else place_of s_id regions
