use Rattle.hlr_core.proofs.Common.{◌≡◌, ◌+◌, length, map, take, slice_index_or, pos, range_with_len, FIRST_ZONE, weight, ZONES}
use Rattle.hlr_core.proofs.weights.zone_weights.Given as goal

abbrev pub invariant-loop-zone : goal.invariant-loop-zone
invariant-loop-zone l = record {
  wide : length l.weights ≡ ZONES;
  so_far : take l.zone l.weights ≡ map (λ zone. weight (slice_index_or l.published (FIRST_ZONE + zone) (pos 0))) (range_with_len 0 l.zone);
}
