use Rattle.mr_node.proofs.Common.{length, ap, ◌∙◌}
use Rattle.mr_node.proofs.rebalancing.count_anew.Goals as goal

pub returns-clause-count : goal.returns-clause-count
returns-clause-count g c = c.len-child.ensures ∙ ap (λ s. length s.rows) c.deref.ensures
