use Rattle.mr_node.proofs.Common.{◌≡◌, ◌+◌, ◌++◌, length, take, drop, zip, AreKeyed, pairs_of}
use Rattle.mr_node.proofs.entry_lists.move_front.Given as goal

abbrev pub invariant-loop-place : goal.invariant-loop-place
invariant-loop-place g l =
    AreKeyed l.to.keys l.to.values.items
    × (length l.to.values.items ≡ length l.fn.to.values.items + l.place)
    × (pairs_of l.to ≡ pairs_of l.fn.to ++ take l.place (zip l.keys l.fn.values.items))
    × (length l.values.items ≡ length l.fn.values.items)
    × (drop l.place l.values.items ≡ drop l.place l.fn.values.items)
