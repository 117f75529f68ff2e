use Rattle.mr_node.proofs.Common.{rules, is_some, sym, ap, refl, pairs_of}
use Rattle.mr_node.proofs.EntryLemmas.{missing_value}
use Rattle.mr_node.proofs.ReviseLemmas.{revised_none, spent_none, leaf_revised, leaf_spent, leaf_found}
use Rattle.mr_node.proofs.entries.revise_entry.Goals as goal

pub revise_in-requires : goal.revise_in-requires
revise_in-requires g c = (search rules, c.in-Ok.ensures.within)

pub returns-in-Ok-clause-rows : goal.returns-in-Ok-clause-rows
returns-in-Ok-clause-rows g c = (leaf_revised c.args.key c.in-Ok.place (g.E.Revise.revised c.args.revision.now) c.args.leaf.now _ c.requires c.in-Ok.ensures refl c.revise_in.ensures.items).1

pub returns-in-Ok-clause-len : goal.returns-in-Ok-clause-len
returns-in-Ok-clause-len g c = (leaf_revised c.args.key c.in-Ok.place (g.E.Revise.revised c.args.revision.now) c.args.leaf.now _ c.requires c.in-Ok.ensures refl c.revise_in.ensures.items).2

pub returns-in-Ok-clause-leaf : goal.returns-in-Ok-clause-leaf
returns-in-Ok-clause-leaf g c = (leaf_revised c.args.key c.in-Ok.place (g.E.Revise.revised c.args.revision.now) c.args.leaf.now _ c.requires c.in-Ok.ensures refl c.revise_in.ensures.items).0

pub returns-in-Ok-clause-spent : goal.returns-in-Ok-clause-spent
returns-in-Ok-clause-spent g c = leaf_spent c.args.key c.in-Ok.place g.E.Revise.spent c.args.revision.now c.revise_in.new.revision c.args.leaf.now c.requires c.in-Ok.ensures c.revise_in.ensures.spent

pub returns-in-Ok-clause-found : goal.returns-in-Ok-clause-found
returns-in-Ok-clause-found g c = leaf_found c.args.key c.in-Ok.place c.args.leaf.now c.requires c.in-Ok.ensures

pub returns-in-Err-clause-rows : goal.returns-in-Err-clause-rows
returns-in-Err-clause-rows g c = sym (revised_none c.args.key (g.E.Revise.revised c.args.revision.now) (pairs_of c.args.leaf.now) (missing_value c.args.key c.in-Err.field-0 c.args.leaf.now c.in-Err.ensures))

pub returns-in-Err-clause-spent : goal.returns-in-Err-clause-spent
returns-in-Err-clause-spent g c = sym (spent_none c.args.key g.E.Revise.spent c.args.revision.now (pairs_of c.args.leaf.now) (missing_value c.args.key c.in-Err.field-0 c.args.leaf.now c.in-Err.ensures))

pub returns-in-Err-clause-found : goal.returns-in-Err-clause-found
returns-in-Err-clause-found g c = sym (ap is_some (missing_value c.args.key c.in-Err.field-0 c.args.leaf.now c.in-Err.ensures))
