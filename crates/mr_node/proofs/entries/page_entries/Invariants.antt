use Rattle.mr_node.proofs.PageLemmas.{IsPageTo}
use Rattle.mr_node.proofs.entries.page_entries.Given as goal

abbrev pub invariant-loop-place : goal.invariant-loop-place
invariant-loop-place g l = IsPageTo l.leaf l.stop l.place l.page.items
