-- Dissolving: a part's range goes to the part in front of it.
use Rattle.std.specs.Prelude.{ℕ, zero, suc, ◌-◌, ◌==◌, List, [], ◌∷◌, map, Option, Some, None, if◌then◌else◌, Result, Ok, Err}
use Rattle.std.specs.List.{find}
use Rattle.tatp_rows.specs.declared.refusal.Refusal.{Refusal}
use Rattle.tatp_rows.specs.declared.refusal.Refusal.TheVariants.{NoPart, NotAdjacent}
use Rattle.part_table.specs.Region.{is_part}
use Rattle.part_table.specs.declared.region.Place.{Place}
use Rattle.part_table.specs.declared.region.Place.TheVariants.{Part, Piece}
use Rattle.part_table.specs.declared.region.Region.{Region}

-- the region of the part in front of one, which the first part hasn't
abbrev pub part_before : ℕ → List Region → Option Region
part_before zero regions = None
part_before (suc p) regions = find (is_part p) regions

-- the answer of a dissolve of a part with the part in front of it, if they are there: the number of the part in front,
-- and its range then; a loose piece may lie between
abbrev pub dissolve_answer_of : Option Region → Option Region → ℕ → Result (ℕ × ℕ × ℕ) Refusal
dissolve_answer_of None front p = Err NoPart
dissolve_answer_of (Some part) None p = Err NotAdjacent
dissolve_answer_of (Some part) (Some front) p =
    if front.hi == part.lo then Ok (p - 1, front.lo, part.hi) else Err NotAdjacent

-- what a dissolve of the part p answers: NoPart, NotAdjacent, else the number of the part in front and its range then
abbrev pub dissolve_answer : ℕ → List Region → Result (ℕ × ℕ × ℕ) Refusal
dissolve_answer p regions = dissolve_answer_of (find (is_part p) regions) (part_before p regions) p

-- a place whose part's number falls by one
abbrev pub place_lowered : Place → Place
place_lowered (Part number) = Part (number - 1)
place_lowered (Piece number) = Piece number

-- regions whose parts' numbers fall by one
abbrev pub lowered : List Region → List Region
lowered regions = map (λ (region : Region). record region { place = place_lowered region.place }) regions

-- the regions with that of a part joined to the region in front of it, and later parts' numbers one less
abbrev pub dissolved_behind : ℕ → Region → List Region → List Region
dissolved_behind p first [] = first ∷ []
dissolved_behind p first (second ∷ regions) =
    if is_part p second then record first { hi = second.hi } ∷ lowered regions
    else first ∷ dissolved_behind p second regions

-- the regions with that of the part p joined to the one in front
abbrev pub dissolved : ℕ → List Region → List Region
dissolved p [] = []
dissolved p (region ∷ regions) = dissolved_behind p region regions

-- the regions after the answer of a dissolve; a refusal leaves them
abbrev pub after_dissolve : ℕ → Result (ℕ × ℕ × ℕ) Refusal → List Region → List Region
after_dissolve p (Ok part) regions = dissolved p regions
after_dissolve p (Err why) regions = regions
