use Rattle.hlr_core.proofs.Common.{ℕ, ◌<◌, IsLevel}
use Rattle.hlr_core.proofs.level.are_level.Given as goal

abbrev pub invariant-loop-slot : goal.invariant-loop-slot
invariant-loop-slot l = (slot : ℕ) → slot < l.slot → IsLevel l.words slot
