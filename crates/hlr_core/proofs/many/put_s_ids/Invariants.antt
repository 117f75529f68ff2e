use Rattle.hlr_core.proofs.Common.{◌≡◌, ℕ, map, take}
use Rattle.hlr_core.proofs.many.put_s_ids.Given as goal

abbrev pub invariant-loop-place : goal.invariant-loop-place
invariant-loop-place l = l.s_ids.items ≡ map (λ (a : ℕ × ℕ). a.0) (take l.place l.accesses)
