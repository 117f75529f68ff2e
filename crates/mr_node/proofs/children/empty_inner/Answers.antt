use Rattle.mr_node.proofs.Common.{refl}
use Rattle.mr_node.proofs.EntryListLemmas.{no_entries}
use Rattle.mr_node.proofs.children.empty_inner.Goals as goal

pub returns-clause-entries : goal.returns-clause-entries
returns-clause-entries g c = no_entries _ c.no_children-children.result refl c.no_children-children.ensures
