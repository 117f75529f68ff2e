use Rattle.hlr_c.proofs.Common.{◌≡◌, map, take, HlrDestinationAsked}
use Rattle.hlr_c.proofs.many.put_calls.Given as goal

abbrev pub invariant-loop-place : goal.invariant-loop-place
invariant-loop-place l = l.calls.items ≡ map (λ (q : HlrDestinationAsked). (q.s_id, q.sf_type, q.start_time, q.end_time)) (take l.place l.asked)
