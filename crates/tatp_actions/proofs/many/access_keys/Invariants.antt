use Rattle.tatp_actions.proofs.Common.{◌≡◌, map, take, key_of}
use Rattle.tatp_actions.proofs.many.access_keys.Given as goal

abbrev pub invariant-loop-place : goal.invariant-loop-place
invariant-loop-place l = l.keys.items ≡ map (λ a. key_of a.0 a.1 0) (take l.place l.asked)
