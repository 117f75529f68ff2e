use Rattle.mr_node.proofs.Common.{◌≤◌, ◌-◌, max, vec_len, vec_capacity}
use Rattle.mr_node.proofs.stock.Blanks+Node+V.fill.Given as goal

abbrev pub invariant-loop-alloc : goal.invariant-loop-alloc
invariant-loop-alloc g l =
    (vec_len l.initial.self-inside.boxes ≤ vec_len l.self-inside.boxes)
    × (vec_len l.self-inside.boxes ≤ max (vec_len l.initial.self-inside.boxes) l.count)
    × (l.count ≤ vec_capacity l.self-inside.boxes)

abbrev pub decreases-loop-alloc : goal.decreases-loop-alloc
decreases-loop-alloc g l = l.count - vec_len l.self-inside.boxes
