use Rattle.mr_node.proofs.Common.{rules, ◌≡◌, length, set, refl, ◌∙◌}
use Rattle.mr_node.proofs.EntryLemmas.{IsPut, leaf_put, leaf_pushed}
use Rattle.mr_node.proofs.entries.put_entry.Goals as goal
use Rattle.mr_node.proofs.entries.put_entry.Goals.{After-insert, After-push}

-- the row went in between others
inserted : (g : _) (c : After-insert g) → IsPut c.args.key c.args.value c.args.leaf.now (record { keys = c.put_key.new.keys; values = c.insert.new.self })
inserted g c =
    let leaf = c.args.leaf.now in
    let long : length leaf.keys ≡ 32 = search rules in
    leaf_put c.args.key c.args.place c.args.value leaf _ c.requires.leaf c.requires.free long c.requires.room c.requires.small c.put_key.ensures c.insert.ensures.items

-- and behind all others
pushed : (g : _) (c : After-push g) → IsPut c.args.key c.args.value c.args.leaf.now (record { keys = set c.args.leaf.now.keys c.args.place c.args.key; values = c.push.new.self })
pushed g c =
    let leaf = c.args.leaf.now in
    let long : length leaf.keys ≡ 32 = search rules in
    leaf_pushed c.args.key c.args.place c.args.value leaf _ c.requires.leaf c.requires.free long c.requires.room c.requires.small (c.if-place-len.true ∙ c.len.ensures.value) refl c.push.ensures.items

pub returns-clause-leaf : goal.returns-clause-leaf
returns-clause-leaf g c = (inserted g c).0

pub returns-clause-grown : goal.returns-clause-grown
returns-clause-grown g c = (inserted g c).1

pub returns-then-place-len-clause-leaf : goal.returns-then-place-len-clause-leaf
returns-then-place-len-clause-leaf g c = (pushed g c).0

pub returns-then-place-len-clause-grown : goal.returns-then-place-len-clause-grown
returns-then-place-len-clause-grown g c = (pushed g c).1
