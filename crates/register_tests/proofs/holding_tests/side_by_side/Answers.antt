use mathlib.Core.List.{[], ◌∷◌}
use denote.Exit.{yes}
use denote.Param.Send.{param_send, arg_send, shr_send}
use Rattle.tatp_rows.proofs.CrossingLemmas.{tuple_send}
use Rattle.view_board.proofs.board.Board.TheSendSync.{the_sync as board_sync}
use Rattle.holding.proofs.CrossingLemmas.{bool_send, holding_send, posted_send, some_piece_send}
use Rattle.register_tests.proofs.holding_tests.Shift.TheSendSync.{the_sync as shift_sync}
use Rattle.register_tests.proofs.holding_tests.side_by_side.Goals as goal
use Rattle.register_tests.proofs.holding_tests.side_by_side.Lts.{arg-0-1, arg-0-3}

pub join-requires-send-F : goal.join-requires-send-F
join-requires-send-F g c κs within =
    param_send 1 (arg-0-1 g.row.R g.R.laws g.R.Threads-dict κs)
    (arg_send _ yes _ (tuple_send _ (_ ∷ _ ∷ _ ∷ _ ∷ []) (shr_send _ _ _ board_sync, (holding_send, (some_piece_send, (shr_send _ _ _ shift_sync, tt))))))

pub join-requires-send-A : goal.join-requires-send-A
join-requires-send-A g c κs within =
    param_send 3 (arg-0-3 g.row.R g.R.laws g.R.Threads-dict κs)
    (arg_send _ yes _ (tuple_send _ (_ ∷ _ ∷ []) (tuple_send _ (_ ∷ _ ∷ _ ∷ []) (holding_send, (bool_send, (posted_send, tt))), (some_piece_send, tt))))
