use Rattle.view_board.proofs.Common.{◌≡◌}
use Rattle.view_board.proofs.LevelLemmas.{IsLevelTo}
use Rattle.view_board.proofs.board.Board.take_back.Given as goal

abbrev pub invariant-loop-cell : goal.invariant-loop-cell
invariant-loop-cell l = record {
  board : l.desk.board ≡ l.initial.desk.board;
  so_far : IsLevelTo l.slot l.initial.desk.view l.desk.view l.cell;
}
