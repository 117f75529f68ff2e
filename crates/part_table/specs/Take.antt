-- Taking: a loose piece is joined to a part that stands beside it.
use Rattle.std.specs.Prelude.{ℕ, ◌==◌, ◌&&◌, List, [], ◌∷◌, Option, Some, None, if◌then◌else◌, Result, Ok, Err}
use Rattle.std.specs.List.{find}
use Rattle.std.specs.Option.{ok_or}
use Rattle.tatp_rows.specs.declared.refusal.Refusal.{Refusal}
use Rattle.tatp_rows.specs.declared.refusal.Refusal.TheVariants.{NoPiece, NoPart, NotAdjacent}
use Rattle.part_table.specs.Region.{is_part, is_piece}
use Rattle.part_table.specs.declared.region.Place.{Place}
use Rattle.part_table.specs.declared.region.Region.{Region}
use Rattle.part_table.specs.declared.region.Side.{Side}
use Rattle.part_table.specs.declared.region.Side.TheVariants.{Low, High}

-- the side of a part on which a piece lies, where their ranges touch
abbrev pub touching : Region → Region → Option Side
touching piece part = if piece.hi == part.lo then Some Low else (if part.hi == piece.lo then Some High else None)

-- the answer of a take of a piece by a part, if they are there
abbrev pub answer_of_both : Option Region → Option Region → Result Side Refusal
answer_of_both None part = Err NoPiece
answer_of_both (Some piece) None = Err NoPart
answer_of_both (Some piece) (Some part) = ok_or (touching piece part) NotAdjacent

-- what a take of the piece n by the part q answers: NoPiece, NoPart, NotAdjacent, else the side on which it lies
abbrev pub take_answer : ℕ → ℕ → List Region → Result Side Refusal
take_answer n q regions = answer_of_both (find (is_piece n) regions) (find (is_part q) regions)

-- the side of a part on which a piece lies, where two neighbours are the piece and the part
abbrev pub side_between : ℕ → ℕ → Region → Region → Option Side
side_between n q first second =
    if is_piece n first && is_part q second then Some Low else (
    if is_part q first && is_piece n second then Some High else None)

-- the place of the part of two neighbours, which has the piece on one side
abbrev pub part_place : Region → Region → Side → Place
part_place first second Low = second.place
part_place first second High = first.place

-- two neighbours as one region of the part
abbrev pub joint : Region → Region → Side → Region
joint first second side = record { lo = first.lo; hi = second.hi; place = part_place first second side }

-- one region in place of two neighbours that are a piece and its part; of others the first, and what becomes of those
-- behind it
abbrev pub joined_pair : Option Side → Region → Region → List Region → List Region → List Region
joined_pair None first second regions others = first ∷ others
joined_pair (Some side) first second regions others = joint first second side ∷ regions

-- the regions with a piece and the part beside it as one region of the part
abbrev pub joined_behind : ℕ → ℕ → Region → List Region → List Region
joined_behind n q first [] = first ∷ []
joined_behind n q first (second ∷ regions) =
    joined_pair (side_between n q first second) first second regions (joined_behind n q second regions)

-- the regions with the piece n and the part q as one region of the part
abbrev pub joined : ℕ → ℕ → List Region → List Region
joined n q [] = []
joined n q (region ∷ regions) = joined_behind n q region regions

-- the regions after the answer of a take; a refusal leaves them
abbrev pub after_take : ℕ → ℕ → Result Side Refusal → List Region → List Region
after_take n q (Ok side) regions = joined n q regions
after_take n q (Err why) regions = regions
