-- Giving: a part's range is cut in two at a bound, and the stretch on one side becomes a loose piece.
use Rattle.std.specs.Prelude.{◌≡◌, ℕ, ◌+◌, ◌<◌, ◌==◌, false, ◌&&◌, ◌++◌, not, nat_lt, List, [], ◌∷◌, length, Option, Some, None, if◌then◌else◌, Result, Ok, Err}
use Rattle.std.specs.List.{find, list_any}
use Rattle.tatp_rows.specs.declared.refusal.Refusal.{Refusal}
use Rattle.tatp_rows.specs.declared.refusal.Refusal.TheVariants.{NoPart, OutOfRange, ManyPieces}
use Rattle.part_table.specs.Least.{least}
use Rattle.part_table.specs.Region.{is_part}
use Rattle.part_table.specs.Regions.{pieces_of, IsPieceNumber}
use Rattle.part_table.specs.declared.region.Place.TheVariants.{Piece}
use Rattle.part_table.specs.declared.region.Region.{Region}
use Rattle.part_table.specs.declared.region.Side.{Side}
use Rattle.part_table.specs.declared.region.Side.TheVariants.{Low, High}
use Rattle.part_table.specs.declared.region.TheConstants.{MOST_PIECES}

-- the least number from 1 on that none of these pieces has
abbrev pub free_number : List ℕ → ℕ
free_number pieces = least (λ n. not (list_any (λ m. m == n) pieces)) 1 MOST_PIECES

-- that number, of pieces of which fewer than sixteen are loose (no public clause cites it)
pub record IsFreeNumber (pieces : List ℕ) (n : ℕ) : Type 0 where
  pub least_free : n ≡ free_number pieces
  pub fresh : list_any (λ m. m == n) pieces ≡ false
  pub in_range : IsPieceNumber n
  pub few : length pieces < MOST_PIECES

-- where the stretch begins and ends that a part gives away: below a bound, or from it on
abbrev pub given : Side → ℕ → Region → ℕ × ℕ
given Low at part = (part.lo, at)
given High at part = (at, part.hi)

-- the answer of a give by a part, if it is there: the number of the new piece, and its range
abbrev pub answer_of_part : Option Region → Side → ℕ → List Region → Result (ℕ × ℕ × ℕ) Refusal
answer_of_part None side at regions = Err NoPart
answer_of_part (Some part) side at regions =
    if not (nat_lt part.lo at && nat_lt at part.hi) then Err OutOfRange else (
    if length (pieces_of regions) == MOST_PIECES then Err ManyPieces else
    Ok (free_number (pieces_of regions), (given side at part).0, (given side at part).1))

-- what a give of the part p answers: NoPart, OutOfRange, ManyPieces, else the piece's number and its range
abbrev pub give_answer : ℕ → Side → ℕ → List Region → Result (ℕ × ℕ × ℕ) Refusal
give_answer p side at regions = answer_of_part (find (is_part p) regions) side at regions

-- a part's region cut in two, of which one half is a piece
abbrev pub halves : ℕ → Side → ℕ → Region → List Region
halves n Low at part = record { lo = part.lo; hi = at; place = Piece n } ∷ record { lo = at; hi = part.hi; place = part.place } ∷ []
halves n High at part = record { lo = part.lo; hi = at; place = part.place } ∷ record { lo = at; hi = part.hi; place = Piece n } ∷ []

-- the regions with that of a part cut in two
abbrev pub cut : ℕ → ℕ → Side → ℕ → List Region → List Region
cut p n side at [] = []
cut p n side at (region ∷ regions) = if is_part p region then halves n side at region ++ regions else region ∷ cut p n side at regions

-- the regions after the answer of a give; a refusal leaves them
abbrev pub after_give : ℕ → Side → ℕ → Result (ℕ × ℕ × ℕ) Refusal → List Region → List Region
after_give p side at (Ok piece) regions = cut p piece.0 side at regions
after_give p side at (Err why) regions = regions

-- of two neighbours, a part and a piece on one side of it: the index of the piece, by that of the first, and the index
-- of the second, by that of the piece (no public clause cites these two)
abbrev pub piece_index : Side → ℕ → ℕ
piece_index Low i = i
piece_index High i = i + 1

-- of such neighbours, the index of the second by that of the piece (no public clause cites it)
abbrev pub second_index : Side → ℕ → ℕ
second_index Low i = i + 1
second_index High i = i
