use Rattle.hlr_core.proofs.Common.{◌≡◌, ◌+◌, take, All, LAST_SUBSCRIBER, IsWithin}
use Rattle.hlr_core.proofs.many.put_ids.Given as goal

abbrev pub invariant-loop-place : goal.invariant-loop-place
invariant-loop-place l = record {
  same : l.ids.items ≡ take l.place l.s_ids;
  within : All (IsWithin 1 (LAST_SUBSCRIBER + 1)) (take l.place l.s_ids);
}
