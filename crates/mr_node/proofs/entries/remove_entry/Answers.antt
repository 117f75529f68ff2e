use Rattle.mr_node.proofs.Common.{sym}
use Rattle.mr_node.proofs.EntryLemmas.{missing_at, missing_value, read_value, leaf_removed}
use Rattle.mr_node.proofs.entries.remove_entry.Goals as goal

pub returns-in-Ok-clause-rows : goal.returns-in-Ok-clause-rows
returns-in-Ok-clause-rows g c = (leaf_removed c.args.key c.in-Ok.place c.args.leaf.now _ c.requires c.in-Ok.ensures c.take_key.ensures c.remove.ensures.items).1

pub returns-in-Ok-clause-leaf : goal.returns-in-Ok-clause-leaf
returns-in-Ok-clause-leaf g c = (leaf_removed c.args.key c.in-Ok.place c.args.leaf.now _ c.requires c.in-Ok.ensures c.take_key.ensures c.remove.ensures.items).0

pub returns-in-Ok-clause-value : goal.returns-in-Ok-clause-value
returns-in-Ok-clause-value g c = read_value c.args.key c.in-Ok.place c.remove.result c.args.leaf.now c.requires c.in-Ok.ensures c.remove.ensures.value

pub returns-in-Err-clause-rows : goal.returns-in-Err-clause-rows
returns-in-Err-clause-rows g c = sym (missing_at c.args.key c.in-Err.field-0 c.args.leaf.now c.in-Err.ensures).removed

pub returns-in-Err-clause-value : goal.returns-in-Err-clause-value
returns-in-Err-clause-value g c = sym (missing_value c.args.key c.in-Err.field-0 c.args.leaf.now c.in-Err.ensures)
