use Rattle.mr_node.proofs.Common.{◌≡◌}
use Rattle.mr_node.proofs.KeyedLemmas.{of_item}
use Rattle.mr_node.proofs.ReviseLemmas.{value_changed}
use Rattle.mr_node.proofs.entries.revise_in.Goals as goal

pub returns-clause-items : goal.returns-clause-items
returns-clause-items g c = value_changed c.args.place c.index-as_mut_slice-place.result c.revise.new.value (g.E.Revise.revised c.args.revision.now) c.args.values.now.items c.as_mut_slice.result.now c.as_mut_slice.ensures.value c.requires c.revise.ensures.value

pub returns-clause-spent : goal.returns-clause-spent
returns-clause-spent g c = of_item (λ v. c.revise.new.self ≡ g.E.Revise.spent c.args.revision.now v) c.args.place c.index-as_mut_slice-place.result c.args.values.now.items c.as_mut_slice.result.now c.as_mut_slice.ensures.value c.requires c.revise.ensures.spent
