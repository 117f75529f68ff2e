use Rattle.view_board.proofs.board.Board.split.Given as goal

abbrev pub ghosts-cut : goal.ghosts-cut
ghosts-cut a = record { slot = a.slot }
