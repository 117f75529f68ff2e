use Rattle.hlr_core.proofs.Common.{◌≡◌, ◌+◌, ℕ, take, true, All, is_between, LAST_SUBSCRIBER, IsWithin}
use Rattle.hlr_core.proofs.many.put_accesses.Given as goal

abbrev pub invariant-loop-place : goal.invariant-loop-place
invariant-loop-place l = record {
  same : l.accesses.items ≡ take l.place l.asked;
  within : All (λ (a : ℕ × ℕ). IsWithin 1 (LAST_SUBSCRIBER + 1) a.0 × (is_between 1 4 a.1 ≡ true)) (take l.place l.asked);
}
