use Rattle.mr_node.proofs.Common.{◌≡◌, ◌-◌, ◌≤◌, ◌++◌, length, reverse, max, AreEntries, entries}
use Rattle.mr_node.proofs.entry_lists.InnerEntryList.give_front.Given as goal

abbrev pub invariant-loop-to : goal.invariant-loop-to
invariant-loop-to g l =
    AreEntries l.to.len l.to.leasts l.to.children
    × AreEntries l.self.len l.self.leasts l.self.children
    × (entries l.to.leasts l.to.children ++ reverse (entries l.self.leasts l.self.children) ≡ entries l.fn.to.leasts l.fn.to.children ++ reverse (entries l.initial.self.leasts l.initial.self.children))
    × (length (entries l.fn.to.leasts l.fn.to.children) ≤ length (entries l.to.leasts l.to.children))
    × (length (entries l.to.leasts l.to.children) ≤ max (length (entries l.fn.to.leasts l.fn.to.children)) l.low)
    × (l.to.height ≡ l.fn.to.height)
    × (l.self.height ≡ l.initial.self.height)

abbrev pub decreases-loop-to : goal.decreases-loop-to
decreases-loop-to g l = l.low - l.to.len
