use Rattle.mr_node.proofs.EntryLemmas.{never_there}
use Rattle.mr_node.proofs.entries.insert_new.Goals as goal

pub unreachable-requires : goal.unreachable-requires
unreachable-requires g c = never_there c.args.key c.in-Ok.field-0 c.args.leaf.now c.requires.leaf c.in-Ok.ensures c.requires.missing
