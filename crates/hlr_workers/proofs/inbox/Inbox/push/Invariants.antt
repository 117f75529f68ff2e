use Rattle.hlr_workers.proofs.Common.{◌≡◌, view, IsPassOf}
use Rattle.hlr_workers.proofs.inbox.Inbox.push.Given as goal

abbrev pub invariant-loop : goal.invariant-loop
invariant-loop g l = IsPassOf l.self.queue l.pass × (view l.pass ≡ view l.fn.pass) × (l.message ≡ l.fn.message)
