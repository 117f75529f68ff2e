use Rattle.mr_node.proofs.Common.{sym, ◌∙◌}
use Rattle.mr_node.proofs.KeyedLemmas.{keyed_length}
use Rattle.mr_node.proofs.entry_lists.LeafEntryList.width.Goals as goal

pub returns : goal.returns
returns g c = c.len.ensures.value ∙ sym (keyed_length _ _ c.requires)
