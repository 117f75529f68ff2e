use Rattle.hlr_workers.proofs.Common.{◌≡◌, ◌≤◌, vec_capacity, view, IsPassOf, IsAtWork, MOST_PENDING}
use Rattle.hlr_workers.proofs.work.serve.Given as goal

abbrev pub invariant-loop : goal.invariant-loop
invariant-loop g l = record {
  pass : IsPassOf l.inbox.queue l.pass;
  board : l.holding.value.desk.board ≡ l.board;
  work : IsAtWork (view l.pass) l.replies.items l.holding.value;
  room : MOST_PENDING ≤ vec_capacity l.replies;
}
