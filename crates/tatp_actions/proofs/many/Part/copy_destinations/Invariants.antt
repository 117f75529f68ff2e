use Rattle.tatp_actions.proofs.Common.{◌≡◌, ℕ, map, take, destinations}
use Rattle.tatp_actions.proofs.many.Part.copy_destinations.Given as goal

abbrev pub invariant-loop-place : goal.invariant-loop-place
invariant-loop-place l = l.found.items ≡ map (λ (q : ℕ × ℕ × ℕ × ℕ). record { items = destinations l.self.book q.0 q.1 q.2 q.3 }) (take l.place l.asked)
