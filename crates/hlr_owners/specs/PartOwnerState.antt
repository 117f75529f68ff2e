-- A part's holding that is home, or as it was lent.
use Rattle.std.specs.Prelude.{Bool, true, false, Option, Some, None, Box}
use Rattle.std.specs.declared.alloc.Global.{Global}
use Rattle.holding.specs.Held.{HoldingState}

-- the holding of a part, and whether it is home; one that is lent is told as it was then
pub record PartOwnerState : Type 0 where
  pub holding : HoldingState
  pub home : Bool

-- the state of a part: the holding that its place has, or, if the place is empty, the holding that was lent from it
abbrev pub part_owner_state : Option (Box HoldingState Global) → HoldingState → PartOwnerState
part_owner_state (Some b) lent = record { holding = b.value; home = true }
part_owner_state None lent = record { holding = lent; home = false }
