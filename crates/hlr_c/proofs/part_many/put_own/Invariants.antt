use Rattle.hlr_c.proofs.Common.{◌≡◌, take, All, IsOwn}
use Rattle.hlr_c.proofs.part_many.put_own.Given as goal

abbrev pub invariant-loop-place : goal.invariant-loop-place
invariant-loop-place l = record {
  same : l.own.items ≡ take l.place l.s_ids;
  own : All (λ s_id. IsOwn s_id l.part) (take l.place l.s_ids);
}
