use mathlib.Core.List.{[], ◌∷◌}
use denote.Exit.{yes}
use denote.Param.Send.{param_send, arg_send}
use Rattle.hlr_workers.proofs.Common.{rules, Arc-send, tuple_send}
use Rattle.hlr_workers.proofs.CrossingLemmas.{byte_send, finished_send, inbox_shared_send, pass_send, replies_send}
use Rattle.hlr_workers.proofs.RelayLemmas.{begins, forks}
use Rattle.hlr_workers.proofs.worker.Idle.start.Goals as goal
use Rattle.hlr_workers.proofs.worker.Idle.start.Lts.{arg-16-2, arg-16-3}

pub ruled-requires-clause-rule : goal.ruled-requires-clause-rule
ruled-requires-clause-rule g c = begins

pub another-theirs-requires-clause-rule : goal.another-theirs-requires-clause-rule
another-theirs-requires-clause-rule g c = forks _ _ (search rules) (search rules)

-- what the closure captures, in its order: the handle, the inbox, the gate, the part, the pass, the replies
pub spawn_with-requires-send-F : goal.spawn_with-requires-send-F
spawn_with-requires-send-F g c κs within =
    param_send 2 (arg-16-2 g.row.G g.row.R g.G.laws g.R.laws g.R.copy g.G.Gate-dict g.R.Threads-dict g.R.Wait-dict g.R.Clone-dict g.G.Destruct-dict κs)
    (arg_send _ yes _ (tuple_send _ (_ ∷ _ ∷ _ ∷ _ ∷ _ ∷ _ ∷ []) (c.type_bounds.send-R, (inbox_shared_send, (Arc-send _ c.type_bounds.send-G c.type_bounds.sync-G, (byte_send, (pass_send, (replies_send, tt))))))))

pub spawn_with-requires-send-T : goal.spawn_with-requires-send-T
spawn_with-requires-send-T g c κs within =
    param_send 3 (arg-16-3 g.row.G g.row.R g.G.laws g.R.laws g.R.copy g.G.Gate-dict g.R.Threads-dict g.R.Wait-dict g.R.Clone-dict g.G.Destruct-dict κs)
    (arg_send _ yes _ finished_send)
