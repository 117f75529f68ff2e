use Rattle.hlr_workers.proofs.Common.{◌≡◌, ◌≤◌, true, vec_capacity, view, IsPassOf, HasDone, log, MOST_PENDING}
use Rattle.hlr_workers.proofs.worker.do_rest.Given as goal

abbrev pub invariant-loop : goal.invariant-loop
invariant-loop g l = record {
  pass : IsPassOf l.inbox.queue l.pass;
  both : view l.pass ≡ log true true (view l.fn.pass).sent (view l.pass).got;
  board : l.holding.desk.board ≡ l.board;
  work : HasDone (view l.pass).got l.replies.items l.holding;
  room : MOST_PENDING ≤ vec_capacity l.replies;
}
