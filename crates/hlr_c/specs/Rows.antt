-- What C hands in and gets by reference: rows are those of the tables, and here is what else there is.
use Rattle.std.specs.Prelude.{ℕ, List, [], ◌∷◌, length, slice_index_or}
use Rattle.part_table.specs.declared.region.Place.{Place}
use Rattle.part_table.specs.declared.region.Place.TheVariants as place
use Rattle.part_table.specs.declared.region.Region.{Region}
use Rattle.hlr_c.specs.declared.rows.HlrNumbers.{HlrNumbers}
use Rattle.hlr_c.specs.declared.rows.HlrRegion.{HlrRegion}

-- one to three numbers, and 0 in the places behind them
abbrev pub numbers_for_c : List ℕ → HlrNumbers
numbers_for_c numbers = record {
  count = length numbers;
  numbers = slice_index_or numbers 0 0 ∷ slice_index_or numbers 1 0 ∷ slice_index_or numbers 2 0 ∷ [];
}

-- whether it is a loose piece, as a number
abbrev pub is_piece_for_c : Place → ℕ
is_piece_for_c (place.Part number) = 0
is_piece_for_c (place.Piece number) = 1

-- the number of the part or the piece
abbrev pub number_for_c : Place → ℕ
number_for_c (place.Part number) = number
number_for_c (place.Piece number) = number

-- a region as C gets it
abbrev pub region_for_c : Region → HlrRegion
region_for_c region = record {
  lo = region.lo;
  hi = region.hi;
  is_piece = is_piece_for_c region.place;
  number = number_for_c region.place;
}
