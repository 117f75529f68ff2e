use Rattle.view_board.proofs.Common.{ℕ, ◌<◌, ◌≤◌, get_or}
use Rattle.view_board.proofs.desk.is_blank.Given as goal

abbrev pub invariant-loop-word : goal.invariant-loop-word
invariant-loop-word l = (w : ℕ) → l.start ≤ w → w < l.word → get_or l.numbers w 0 ≤ l.bits
