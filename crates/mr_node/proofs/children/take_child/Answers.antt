use Rattle.mr_node.proofs.Common.{sym, ◌∙◌}
use Rattle.mr_node.proofs.PlaceLemmas.{never_none}
use Rattle.mr_node.proofs.MoveLemmas.{entries_taken}
use Rattle.mr_node.proofs.children.take_child.Goals as goal

pub unreachable-requires : goal.unreachable-requires
unreachable-requires g c = never_none c.args.inner.now.len c.args.place c.index-inner-place.result c.args.inner.now.children c.requires.entries.packed c.requires.within (sym c.take-child.ensures.value ∙ c.in-None.is)

pub returns-clause-entries : goal.returns-clause-entries
returns-clause-entries g c =
    let b = c.args.inner.now in
    (entries_taken b.len c.args.place c.index-inner-place.result c.take-child.new.self c.in-Some.child b.leasts c.take_key.new.keys b.children c.move_to_end.new.items c.requires.entries c.requires.within (sym c.take-child.ensures.value ∙ c.in-Some.is) c.take-child.ensures.after c.take_key.ensures c.move_to_end.ensures).0

pub returns-clause-rest : goal.returns-clause-rest
returns-clause-rest g c =
    let b = c.args.inner.now in
    (entries_taken b.len c.args.place c.index-inner-place.result c.take-child.new.self c.in-Some.child b.leasts c.take_key.new.keys b.children c.move_to_end.new.items c.requires.entries c.requires.within (sym c.take-child.ensures.value ∙ c.in-Some.is) c.take-child.ensures.after c.take_key.ensures c.move_to_end.ensures).1

pub returns-clause-child : goal.returns-clause-child
returns-clause-child g c =
    let b = c.args.inner.now in
    (entries_taken b.len c.args.place c.index-inner-place.result c.take-child.new.self c.in-Some.child b.leasts c.take_key.new.keys b.children c.move_to_end.new.items c.requires.entries c.requires.within (sym c.take-child.ensures.value ∙ c.in-Some.is) c.take-child.ensures.after c.take_key.ensures c.move_to_end.ensures).2
