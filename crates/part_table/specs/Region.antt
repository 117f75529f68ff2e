-- A region: a range of s_ids, and who holds it.
use Rattle.std.specs.Prelude.{ℕ, ◌==◌, ◌&&◌, nat_le, nat_lt, Bool, true, false, List, [], ◌∷◌}
use Rattle.part_table.specs.declared.region.Place.{Place}
use Rattle.part_table.specs.declared.region.Place.TheVariants.{Part, Piece}
use Rattle.part_table.specs.declared.region.Region.{Region}

-- the place is that of the part with this number
abbrev pub is_part_place : ℕ → Place → Bool
is_part_place p (Part number) = number == p
is_part_place p (Piece number) = false

-- the place is that of the loose piece with this number
abbrev pub is_piece_place : ℕ → Place → Bool
is_piece_place n (Part number) = false
is_piece_place n (Piece number) = number == n

-- the region of a part
abbrev pub is_part : ℕ → Region → Bool
is_part p region = is_part_place p region.place

-- the region of a loose piece
abbrev pub is_piece : ℕ → Region → Bool
is_piece n region = is_piece_place n region.place

-- a place is that of any part (no public clause cites this definition or the next one)
abbrev pub is_of_part_place : Place → Bool
is_of_part_place (Part number) = true
is_of_part_place (Piece number) = false

-- the region is that of a part
abbrev pub is_of_part : Region → Bool
is_of_part region = is_of_part_place region.place

-- an s_id lies in the range
abbrev pub lies_in : ℕ → Region → Bool
lies_in s_id region = nat_le region.lo s_id && nat_lt s_id region.hi

-- the range ends behind an s_id
abbrev pub ends_behind : ℕ → Region → Bool
ends_behind s_id region = nat_lt s_id region.hi

-- the number of a part, and nothing of a piece
abbrev pub part_number : Place → List ℕ
part_number (Part number) = number ∷ []
part_number (Piece number) = []

-- the number of a loose piece, and nothing of a part
abbrev pub piece_number : Place → List ℕ
piece_number (Part number) = []
piece_number (Piece number) = number ∷ []
