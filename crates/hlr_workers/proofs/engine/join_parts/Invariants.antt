use Rattle.hlr_workers.proofs.Common.{◌≡◌, ◌<◌, ◌≤◌, ℕ, None, get_or, outs_in, AreBrought}
use Rattle.hlr_workers.proofs.engine.join_parts.Given as goal

abbrev pub invariant-loop-part : goal.invariant-loop-part
invariant-loop-part g l = record {
  brought : AreBrought l.initial.workers l.initial.replies l.workers l.replies;
  home : (q : ℕ) → l.fn.parts.first ≤ q → q < l.part → get_or (outs_in l.workers.register.owners) q None ≡ None;
}
