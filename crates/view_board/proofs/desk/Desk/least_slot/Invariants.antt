use Rattle.view_board.proofs.Common.{ℕ, ◌<◌, Owns}
use Rattle.view_board.proofs.desk.Desk.least_slot.Given as goal

abbrev pub invariant-loop-slot : goal.invariant-loop-slot
invariant-loop-slot l = (other : ℕ) → other < l.slot → Owns l.self.view other → ⊥
