-- A recut: which bounds move so that the parts have others, in which order, and what the moves do.
use Rattle.std.specs.Prelude.{ℕ, ◌+◌, ◌-◌, ◌==◌, ◌&&◌, ◌++◌, not, nat_lt, List, [], ◌∷◌, length, map, if◌then◌else◌, Result, Ok, Err}
use Rattle.tatp_rows.specs.declared.refusal.Refusal.{Refusal}
use Rattle.tatp_rows.specs.declared.refusal.Refusal.TheVariants.{Field, Moving}
use Rattle.part_table.specs.Bounds.{are_rising}
use Rattle.part_table.specs.Give.{give_answer, after_give}
use Rattle.part_table.specs.Regions.{parts_of, pieces_of}
use Rattle.part_table.specs.Take.{take_answer, after_take}
use Rattle.part_table.specs.declared.moves.CutMove.{CutMove}
use Rattle.part_table.specs.declared.region.Region.{Region}
use Rattle.part_table.specs.declared.region.Side.{Side}
use Rattle.part_table.specs.declared.region.Side.TheVariants.{Low, High}

-- where all regions but the first begin
abbrev pub bounds_of : List Region → List ℕ
bounds_of [] = []
bounds_of (region ∷ regions) = map (λ r. r.lo) regions

-- the bounds that rise, from the last down; they are numbered from a number on
abbrev pub rising_moves : ℕ → List ℕ → List ℕ → List CutMove
rising_moves i [] tos = []
rising_moves i (from ∷ froms) [] = []
rising_moves i (from ∷ froms) (to ∷ tos) =
    rising_moves (i + 1) froms tos ++ (if nat_lt from to then record { bound = i; from = from; to = to } ∷ [] else [])

-- the bounds that fall, from the first up
abbrev pub falling_moves : ℕ → List ℕ → List ℕ → List CutMove
falling_moves i [] tos = []
falling_moves i (from ∷ froms) [] = []
falling_moves i (from ∷ froms) (to ∷ tos) =
    (if nat_lt to from then record { bound = i; from = from; to = to } ∷ [] else []) ++ falling_moves (i + 1) froms tos

-- the answer of a recut: the moves of the bounds that differ, first those that rise
abbrev pub recut_answer : List Region → List ℕ → Result (List CutMove) Refusal
recut_answer regions bounds =
    if not ((length bounds + 1 == length (parts_of regions)) && are_rising 1 bounds) then Err Field else (
    if nat_lt 0 (length (pieces_of regions)) then Err Moving else
    Ok (rising_moves 1 (bounds_of regions) bounds ++ falling_moves 1 (bounds_of regions) bounds))

-- the regions after a take, where it is not refused
abbrev pub taken : ℕ → ℕ → Result Side Refusal → List Region → Result (List Region) Refusal
taken n q (Err why) regions = Err why
taken n q (Ok side) regions = Ok (after_take n q (Ok side) regions)

-- the regions after a give and a take of the given piece, where neither is refused
abbrev pub handed_on : ℕ → Side → ℕ → ℕ → Result (ℕ × ℕ × ℕ) Refusal → List Region → Result (List Region) Refusal
handed_on p side at q (Err why) regions = Err why
handed_on p side at q (Ok piece) regions =
    let given = after_give p side at (Ok piece) regions in
    taken piece.0 q (take_answer piece.0 q given) given

-- the regions after the part p gave a stretch away and the part q took it, or why it can't be
abbrev pub handed_over : ℕ → Side → ℕ → ℕ → List Region → Result (List Region) Refusal
handed_over p side at q regions = handed_on p side at q (give_answer p side at regions) regions

-- the regions after a bound was moved: the part that loses a stretch gives it away, and its neighbour takes it
abbrev pub moved : CutMove → List Region → Result (List Region) Refusal
moved move regions =
    if nat_lt move.from move.to then handed_over move.bound Low move.to (move.bound - 1) regions
    else handed_over (move.bound - 1) High move.to move.bound regions

-- the regions after moves, one after another
abbrev pub all_moved : List CutMove → Result (List Region) Refusal → Result (List Region) Refusal
all_moved [] regions = regions
all_moved (move ∷ moves) (Ok regions) = all_moved moves (moved move regions)
all_moved (move ∷ moves) (Err why) = Err why
