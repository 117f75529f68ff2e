-- A recut of a store: each move is a give and a take, and a lack of memory may stop it between two of them.
use Rattle.std.specs.Prelude.{◌≡◌, ℕ, ◌-◌, nat_lt, List, [], ◌∷◌, length, Result, Ok, Err, IfOk, ◌⊎◌, if◌then◌else◌}
use Rattle.std.specs.List.{AllByRecursion}
use Rattle.tatp_rows.specs.declared.refusal.Refusal.{Refusal}
use Rattle.tatp_rows.specs.declared.refusal.Refusal.TheVariants.{Memory}
use Rattle.part_table.specs.Bounds.{parts_between}
use Rattle.part_table.specs.Give.{give_answer, after_give}
use Rattle.part_table.specs.Recut.{recut_answer, moved}
use Rattle.part_table.specs.declared.moves.CutMove.{CutMove}
use Rattle.part_table.specs.declared.region.Region.{Region}
use Rattle.part_table.specs.declared.region.Side.{Side}
use Rattle.part_table.specs.declared.region.Side.TheVariants.{Low, High}
use Rattle.hlr_owners.specs.Owners.{OwnersState, IsPartHome}
use Rattle.hlr_owners.specs.Store.{Store}

-- the regions after a part has given a piece away, if it isn't refused
abbrev pub given_away : ℕ → Side → ℕ → List Region → List Region
given_away part side at regions = after_give part side at (give_answer part side at regions) regions

-- the regions after the give of a move, whose piece is not taken yet
abbrev pub half_moved : CutMove → List Region → List Region
half_moved move regions =
    if nat_lt move.from move.to then given_away move.bound Low move.to regions
    else given_away (move.bound - 1) High move.to regions

-- the parts on both sides of a bound that moves are home
abbrev pub IsHomeToMove : OwnersState → CutMove → Type 0
IsHomeToMove h move = IsPartHome (move.bound - 1) h × IsPartHome move.bound h

-- the parts on which a recut works are home: those on both sides of each bound that it moves
abbrev pub IsHomeToCut : List ℕ → OwnersState → Type 0
IsHomeToCut bounds h = IfOk (recut_answer h.regions bounds) (AllByRecursion (IsHomeToMove h))

-- the moves that a lack of memory has stopped: those in front of one are done, and of that one nothing, or only its
-- give
abbrev pub IsStopped : List CutMove → List Region → List Region → Type 0
IsStopped [] before after = ⊥
IsStopped (move ∷ moves) before after =
    (after ≡ before) ⊎ ((after ≡ half_moved move before)
    ⊎ ((next : List Region) × (moved move before ≡ Ok next) × IsStopped moves next after))

-- the answer to a recut with these moves, and the store after it, in which only the regions change
abbrev pub IsRecutBy : Result (List CutMove) Refusal → List ℕ → Store → Result ℕ Refusal → Store → Type 0
IsRecutBy (Err why) bounds before answer after = (answer ≡ Err why) × (after ≡ before)
IsRecutBy (Ok moves) bounds before (Ok count) after =
    (count ≡ length moves) × (after ≡ record before { regions = parts_between 0 1 bounds })
IsRecutBy (Ok moves) bounds before (Err why) after =
    (why ≡ Memory) × (after ≡ record before { regions = after.regions }) × IsStopped moves before.regions after.regions

-- a right recut to bounds
abbrev pub IsRecut : List ℕ → Store → Result ℕ Refusal → Store → Type 0
IsRecut bounds before = IsRecutBy (recut_answer before.regions bounds) bounds before
