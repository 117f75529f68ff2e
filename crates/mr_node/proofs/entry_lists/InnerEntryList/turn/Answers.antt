use Rattle.mr_node.proofs.ShareLemmas.{inner_turned}
use Rattle.mr_node.proofs.entry_lists.InnerEntryList.turn.Goals as goal

pub returns-clause-entries : goal.returns-clause-entries
returns-clause-entries g c =
    let b = c.args.self.now in
    (inner_turned b.len b.leasts c.turn_front.new.items b.children c.turn_front-2.new.items c.requires c.turn_front.ensures c.turn_front-2.ensures).0

pub returns-clause-turned : goal.returns-clause-turned
returns-clause-turned g c =
    let b = c.args.self.now in
    (inner_turned b.len b.leasts c.turn_front.new.items b.children c.turn_front-2.new.items c.requires c.turn_front.ensures c.turn_front-2.ensures).1
