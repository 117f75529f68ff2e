use Rattle.hlr_c.proofs.Common.{◌≡◌, map, take, All, IsOwnCall, HlrDestinationAsked}
use Rattle.hlr_c.proofs.part_many.put_own_calls.Given as goal

abbrev pub invariant-loop-place : goal.invariant-loop-place
invariant-loop-place l = record {
  same : l.own.items ≡ map (λ (q : HlrDestinationAsked). (q.s_id, q.sf_type, q.start_time, q.end_time)) (take l.place l.asked);
  own : All (λ q. IsOwnCall q l.part) (take l.place l.asked);
}
