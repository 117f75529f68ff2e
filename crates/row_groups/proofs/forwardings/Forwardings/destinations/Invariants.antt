use Rattle.row_groups.proofs.Common.{◌≡◌, ◌≤◌, filter, map, take, filled, forwarding_places, forwarding_row, is_in_time}
use Rattle.arrayvec.specs.ArrayVec.{array_vec_len}
use Rattle.row_groups.proofs.forwardings.Forwardings.destinations.Given as goal

abbrev pub invariant-loop-place : goal.invariant-loop-place
invariant-loop-place l = record {
  few : array_vec_len l.numbers ≤ l.place;
  chosen : l.numbers.items ≡ map (λ row. row.numberx) (filter (is_in_time l.start_time l.end_time) (filled forwarding_row 0 (take l.place (forwarding_places l.self))));
}
