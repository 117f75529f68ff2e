use Rattle.tatp_actions.proofs.Common.{◌≡◌, ℕ, map, take, key_of}
use Rattle.tatp_actions.proofs.many.call_keys.Given as goal

abbrev pub invariant-loop-place : goal.invariant-loop-place
invariant-loop-place l = l.keys.items ≡ map (λ (q : ℕ × ℕ × ℕ × ℕ). key_of q.0 q.1 0) (take l.place l.asked)
