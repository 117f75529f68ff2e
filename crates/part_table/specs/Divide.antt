-- Dividing: a part's range is cut in two at a bound, and the stretch from the bound on becomes the next part.
use Rattle.std.specs.Prelude.{ℕ, ◌+◌, ◌==◌, ◌&&◌, not, nat_lt, List, [], ◌∷◌, length, map, Option, Some, None, if◌then◌else◌, Result, Ok, Err}
use Rattle.std.specs.List.{find}
use Rattle.tatp_rows.specs.declared.refusal.Refusal.{Refusal}
use Rattle.tatp_rows.specs.declared.refusal.Refusal.TheVariants.{NoPart, OutOfRange, ManyParts}
use Rattle.part_table.specs.Region.{is_part}
use Rattle.part_table.specs.Regions.{parts_of}
use Rattle.part_table.specs.declared.region.Place.{Place}
use Rattle.part_table.specs.declared.region.Place.TheVariants.{Part, Piece}
use Rattle.part_table.specs.declared.region.Region.{Region}
use Rattle.part_table.specs.declared.region.TheConstants.{MOST_PARTS}

-- the answer of a divide of a part, if it is there: the number of the new part, and its range
abbrev pub divide_answer_of : Option Region → ℕ → ℕ → List Region → Result (ℕ × ℕ × ℕ) Refusal
divide_answer_of None p at regions = Err NoPart
divide_answer_of (Some part) p at regions =
    if not (nat_lt part.lo at && nat_lt at part.hi) then Err OutOfRange else (
    if length (parts_of regions) == MOST_PARTS then Err ManyParts else
    Ok (p + 1, at, part.hi))

-- what a divide of the part p at a subscriber answers: NoPart, OutOfRange, ManyParts, else the new part's number and
-- its range
abbrev pub divide_answer : ℕ → ℕ → List Region → Result (ℕ × ℕ × ℕ) Refusal
divide_answer p at regions = divide_answer_of (find (is_part p) regions) p at regions

-- a place whose part's number rises by one
abbrev pub place_raised : Place → Place
place_raised (Part number) = Part (number + 1)
place_raised (Piece number) = Piece number

-- regions whose parts' numbers rise by one
abbrev pub raised : List Region → List Region
raised regions = map (λ (region : Region). record region { place = place_raised region.place }) regions

-- the regions with that of a part cut in two: the part keeps what is below the bound, the next one has the rest, and
-- later parts' numbers rise by one
abbrev pub divided : ℕ → ℕ → List Region → List Region
divided p at [] = []
divided p at (region ∷ regions) =
    if is_part p region
    then record region { hi = at } ∷ record { lo = at; hi = region.hi; place = Part (p + 1) } ∷ raised regions
    else region ∷ divided p at regions

-- the regions after the answer of a divide; a refusal leaves them
abbrev pub after_divide : ℕ → ℕ → Result (ℕ × ℕ × ℕ) Refusal → List Region → List Region
after_divide p at (Ok part) regions = divided p at regions
after_divide p at (Err why) regions = regions
