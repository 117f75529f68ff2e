use Rattle.mr_node.proofs.Common.{◌≡◌, ◌≤◌, ◌++◌, length, reverse, min}
use Rattle.mr_node.proofs.entry_lists.spill.Given as goal

abbrev pub invariant-loop-left : goal.invariant-loop-left
invariant-loop-left g l =
    g.R.EntryList.is_entry_list l.left
    × g.R.EntryList.is_entry_list l.right
    × (g.R.EntryList.list l.left ++ reverse (g.R.EntryList.list l.right) ≡ g.R.EntryList.list l.fn.left ++ reverse (g.R.EntryList.list l.fn.right))
    × (length (g.R.EntryList.list l.left) ≤ length (g.R.EntryList.list l.fn.left))
    × (min (length (g.R.EntryList.list l.fn.left)) l.low ≤ length (g.R.EntryList.list l.left))
    × (g.R.EntryList.height l.left ≡ g.R.EntryList.height l.fn.left)
    × (g.R.EntryList.height l.right ≡ g.R.EntryList.height l.fn.right)

abbrev pub decreases-loop-left : goal.decreases-loop-left
decreases-loop-left g l = length (g.R.EntryList.list l.left)
