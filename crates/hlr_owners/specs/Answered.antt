-- The replies that the owner of an action's rows, and the regions, may give.
use Rattle.std.specs.Prelude.{◌≡◌, ℕ, Bool, true, false, List, Option, Some, None, Result, Ok, Err, if◌then◌else◌, ◌⊎◌}
use Rattle.tatp_rows.specs.declared.refusal.Refusal.{Refusal}
use Rattle.tatp_rows.specs.declared.refusal.Refusal.TheVariants as refusal
use Rattle.part_table.specs.Regions.{place_of}
use Rattle.part_table.specs.declared.region.Place.{Place}
use Rattle.part_table.specs.declared.region.Place.TheVariants as place
use Rattle.part_table.specs.declared.region.Region.{Region}
use Rattle.tatp_actions.specs.Action.{is_in_range, IsOutcome}
use Rattle.tatp_actions.specs.Book.{Book}
use Rattle.tatp_actions.specs.declared.action.Action.{Action}
use Rattle.tatp_actions.specs.declared.action.RowReply.{RowReply}
use Rattle.tatp_actions.specs.declared.action.RowReply.TheVariants as row_reply

-- the place is that of a loose piece
abbrev pub is_loose_place : Option Place → Bool
is_loose_place (Some (place.Piece n)) = true
is_loose_place (Some (place.Part p)) = false
is_loose_place None = false

-- an s_id lies in a loose piece
abbrev pub is_loose : ℕ → List Region → Bool
is_loose s_id regions = is_loose_place (place_of s_id regions)

-- the reply that the owner of an action's rows may give: a loose piece gives Field or else Moving, and any other owner
-- gives a right outcome
abbrev pub IsAnswered : Bool → Action → Book → RowReply → Book → Type 0
IsAnswered false act before answer after = IsOutcome act before answer after
IsAnswered true act before answer after =
    (answer ≡ row_reply.Refused (if is_in_range act then refusal.Moving else refusal.Field)) × (after ≡ before)

-- the answer that a give, a take, a divide or a dissolve may have: that of the regions, or Memory if they refuse
-- nothing
abbrev pub MayAnswer : {A : Type 0} → Result A Refusal → Result A Refusal → Type 0
MayAnswer (Ok done) answer = (answer ≡ Ok done) ⊎ (answer ≡ Err refusal.Memory)
MayAnswer (Err why) answer = answer ≡ Err why
