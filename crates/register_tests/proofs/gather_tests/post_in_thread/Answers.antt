use mathlib.Core.List.{[], ◌∷◌}
use denote.Exit.{yes}
use denote.Param.Send.{IsSync, sendable, param_send, arg_send, shr_send}
use denote.Struct.Field.{u64-field}
use Rattle.std.proofs.Crossing.{Box-send}
use Rattle.tatp_rows.proofs.CrossingLemmas.{tuple_send}
use Rattle.view_board.proofs.board.Board.TheSendSync.{the_sync as board_sync}
use Rattle.holding.proofs.CrossingLemmas.{holding_send, posted_send}
use Rattle.register_tests.proofs.gather_tests.post_in_thread.Goals as goal
use Rattle.register_tests.proofs.gather_tests.post_in_thread.Lts.{arg-0-1, arg-0-3}

number_sync : IsSync u64-field.row
number_sync = search sendable

pub join-posted-requires-send-F : goal.join-posted-requires-send-F
join-posted-requires-send-F g c κs within =
    param_send 1 (arg-0-1 g.row.R g.R.laws g.R.Threads-dict κs)
    (arg_send _ yes _ (tuple_send _ (_ ∷ _ ∷ _ ∷ []) (shr_send _ _ _ board_sync, (Box-send _ holding_send, (shr_send _ _ _ number_sync, tt)))))

pub join-posted-requires-send-A : goal.join-posted-requires-send-A
join-posted-requires-send-A g c κs within =
    param_send 3 (arg-0-3 g.row.R g.R.laws g.R.Threads-dict κs)
    (arg_send _ yes _ (tuple_send _ (_ ∷ _ ∷ []) (Box-send _ holding_send, (posted_send, tt))))
