use Rattle.mr_node.proofs.Common.{◌≡◌, []}
use Rattle.mr_node.proofs.PageLemmas.{NoneTo}
use Rattle.mr_node.proofs.node.Node.+page_from.Given as goal

abbrev pub invariant-loop-place : goal.invariant-loop-place
invariant-loop-place g l = (l.page.items ≡ []) × NoneTo l.key l.place l.inner
