use Rattle.view_board.proofs.Common.{◌≡◌}
use Rattle.view_board.proofs.tests.are_later.Given as goal

abbrev pub invariant-loop : goal.invariant-loop
invariant-loop l = l.desk.board ≡ l.initial.desk.board
