use Rattle.mr_node.proofs.Common.{◌≡◌, ◌-◌, ◌≤◌, length, take, drop}
use Rattle.mr_node.proofs.places.close_front.Given as goal

abbrev pub invariant-loop-place : goal.invariant-loop-place
invariant-loop-place g l =
    (l.count ≤ l.place)
    × (length l.places ≡ length l.fn.places)
    × (take (l.place - l.count) l.places ≡ take (l.place - l.count) (drop l.count l.fn.places))
    × (drop l.place l.places ≡ drop l.place l.fn.places)
