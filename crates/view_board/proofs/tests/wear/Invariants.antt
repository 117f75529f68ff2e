use Rattle.view_board.proofs.Common.{◌≡◌}
use Rattle.view_board.proofs.tests.wear.Given as goal

abbrev pub invariant-loop : goal.invariant-loop
invariant-loop l = (l.desk.board ≡ l.initial.desk.board) × (l.desk.view.owned ≡ l.initial.desk.view.owned)
