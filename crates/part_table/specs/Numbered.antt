-- Regions from the ranges of parts and loose pieces: the parts numbered from 0 in order, and the pieces from 1.
use Rattle.std.specs.Prelude.{ℕ, ◌+◌, ◌==◌, ◌&&◌, nat_lt, Bool, List, [], ◌∷◌, if◌then◌else◌, Result, Ok, Err}
use Rattle.tatp_rows.specs.declared.refusal.Refusal.{Refusal}
use Rattle.tatp_rows.specs.declared.refusal.Refusal.TheVariants.{NotAdjacent}
use Rattle.part_table.specs.declared.region.Place.{Place}
use Rattle.part_table.specs.declared.region.Place.TheVariants.{Part, Piece}
use Rattle.part_table.specs.declared.region.Region.{Region}
use Rattle.part_table.specs.declared.region.TheConstants.{END}

-- a place with the next number of its kind
abbrev pub place_numbered : ℕ → ℕ → Place → Place
place_numbered p n (Part number) = Part p
place_numbered p n (Piece number) = Piece n

-- the next number of a part behind a place
abbrev pub part_after : ℕ → Place → ℕ
part_after p (Part number) = p + 1
part_after p (Piece number) = p

-- the next number of a piece behind a place
abbrev pub piece_after : ℕ → Place → ℕ
piece_after n (Part number) = n
piece_after n (Piece number) = n + 1

-- regions with the numbers from these on
abbrev pub numbered : ℕ → ℕ → List Region → List Region
numbered p n [] = []
numbered p n (region ∷ regions) =
    record { lo = region.lo; hi = region.hi; place = place_numbered p n region.place } ∷ numbered (part_after p region.place) (piece_after n region.place) regions

-- each range has an s_id and begins where the one before it ends, from a number up to behind all s_ids
abbrev pub do_follow : ℕ → List Region → Bool
do_follow from [] = from == END
do_follow from (region ∷ regions) = (region.lo == from) && (nat_lt region.lo region.hi && do_follow region.hi regions)

-- the regions over these ranges, where they follow one another
abbrev pub over_ranges : List Region → Result (List Region) Refusal
over_ranges ranges = if do_follow 1 ranges then Ok (numbered 0 1 ranges) else Err NotAdjacent
