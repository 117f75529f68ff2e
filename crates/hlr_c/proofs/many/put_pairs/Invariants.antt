use Rattle.hlr_c.proofs.Common.{◌≡◌, map, take, HlrAccessAsked}
use Rattle.hlr_c.proofs.many.put_pairs.Given as goal

abbrev pub invariant-loop-place : goal.invariant-loop-place
invariant-loop-place l = l.pairs.items ≡ map (λ (a : HlrAccessAsked). (a.s_id, a.ai_type)) (take l.place l.asked)
