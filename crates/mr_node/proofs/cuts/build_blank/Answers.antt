use Rattle.mr_node.proofs.Common.{◌∙◌}
use Rattle.mr_node.proofs.EvenLemmas.{blank_leaf}
use Rattle.mr_node.proofs.cuts.build_blank.Goals as goal

pub returns-clause-seen : goal.returns-clause-seen
returns-clause-seen g c = c.build_leaf.ensures.seen ∙ blank_leaf c.empty_leaf.result c.empty_leaf.ensures.leaf c.empty_leaf.ensures.none
