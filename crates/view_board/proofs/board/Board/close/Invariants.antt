use Rattle.view_board.proofs.Common.{get_or, ℕ}
use Rattle.view_board.proofs.FillLemmas.{IsFilledTo}
use Rattle.view_board.proofs.board.Board.close.Given as goal

abbrev pub invariant-loop-word : goal.invariant-loop-word
invariant-loop-word l = IsFilledTo 0 (λ (w : ℕ). get_or (l.closed.words.items) w 0) l.initial.words l.words l.word
