use Rattle.mr_node.proofs.Common.{sym}
use Rattle.mr_node.proofs.EntryListLemmas.{entries_length}
use Rattle.mr_node.proofs.entry_lists.InnerEntryList.width.Goals as goal

pub returns : goal.returns
returns g c = sym (entries_length _ _ _ c.requires)
