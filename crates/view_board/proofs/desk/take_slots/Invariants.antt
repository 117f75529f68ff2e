use Rattle.view_board.proofs.Common.{◌||◌, false, slice_index_or, ℕ}
use Rattle.view_board.proofs.FillLemmas.{IsFilledTo}
use Rattle.view_board.proofs.desk.take_slots.Given as goal

abbrev pub invariant-loop-slot : goal.invariant-loop-slot
invariant-loop-slot l =
    IsFilledTo false (λ (slot : ℕ). slice_index_or l.initial.owned slot false || slice_index_or l.others slot false) l.initial.owned l.owned l.slot
