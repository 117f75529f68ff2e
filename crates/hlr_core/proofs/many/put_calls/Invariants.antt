use Rattle.hlr_core.proofs.Common.{◌≡◌, ◌+◌, ℕ, map, take, true, All, LAST_SUBSCRIBER, is_in_range, IsWithin}
use Rattle.tatp_actions.specs.declared.action.Action.TheVariants as action
use Rattle.hlr_core.proofs.many.put_calls.Given as goal

abbrev pub invariant-loop-place : goal.invariant-loop-place
invariant-loop-place l = record {
  same : l.calls.items ≡ take l.place l.asked;
  ids : l.s_ids.items ≡ map (λ (q : ℕ × ℕ × ℕ × ℕ). q.0) (take l.place l.asked);
  within : All (λ (q : ℕ × ℕ × ℕ × ℕ). IsWithin 1 (LAST_SUBSCRIBER + 1) q.0 × (is_in_range (action.NewDestination q.0 q.1 q.2 q.3) ≡ true)) (take l.place l.asked);
}
