use Rattle.tatp_actions.proofs.Common.{◌≡◌, map, take, key_of}
use Rattle.tatp_actions.proofs.many.subscriber_keys.Given as goal

abbrev pub invariant-loop-place : goal.invariant-loop-place
invariant-loop-place l = l.keys.items ≡ map (λ s_id. key_of s_id 0 0) (take l.place l.s_ids)
