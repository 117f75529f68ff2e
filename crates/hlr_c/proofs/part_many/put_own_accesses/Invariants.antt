use Rattle.hlr_c.proofs.Common.{◌≡◌, map, take, All, IsOwnAccess, HlrAccessAsked}
use Rattle.hlr_c.proofs.part_many.put_own_accesses.Given as goal

abbrev pub invariant-loop-place : goal.invariant-loop-place
invariant-loop-place l = record {
  same : l.own.items ≡ map (λ (a : HlrAccessAsked). (a.s_id, a.ai_type)) (take l.place l.asked);
  own : All (λ a. IsOwnAccess a l.part) (take l.place l.asked);
}
