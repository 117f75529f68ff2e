use Rattle.view_board.proofs.Common.{◌/◌, if◌then◌else◌, false, slice_index, slice_index_or, ℕ, SLOT_WORDS}
use Rattle.view_board.proofs.FillLemmas.{IsFilledTo}
use Rattle.view_board.proofs.desk.take_numbers.Given as goal

abbrev pub invariant-loop-word : goal.invariant-loop-word
invariant-loop-word l =
    IsFilledTo 0 (λ (w : ℕ). if slice_index_or l.owned (w / SLOT_WORDS) false then slice_index l.others w else slice_index l.initial.numbers w) l.initial.numbers l.numbers l.word
