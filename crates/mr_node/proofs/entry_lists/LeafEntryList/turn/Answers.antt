use Rattle.mr_node.proofs.Common.{ap, ◌∙◌, reverse}
use Rattle.mr_node.proofs.ShareLemmas.{leaf_turned, turned_back}
use Rattle.mr_node.proofs.entry_lists.LeafEntryList.turn.Goals as goal

pub returns-clause-entries : goal.returns-clause-entries
returns-clause-entries g c =
    let leaf = c.args.self.now in
    (leaf_turned c.len.result leaf.keys c.turn_front.new.items leaf.values.items _ c.len.ensures.value c.requires c.turn_front.ensures
    (turned_back leaf.values.items c.reverse.new.self (c.reverse.ensures.after ∙ ap reverse c.as_mut_slice.ensures.value))).0

pub returns-clause-turned : goal.returns-clause-turned
returns-clause-turned g c =
    let leaf = c.args.self.now in
    (leaf_turned c.len.result leaf.keys c.turn_front.new.items leaf.values.items _ c.len.ensures.value c.requires c.turn_front.ensures
    (turned_back leaf.values.items c.reverse.new.self (c.reverse.ensures.after ∙ ap reverse c.as_mut_slice.ensures.value))).1
