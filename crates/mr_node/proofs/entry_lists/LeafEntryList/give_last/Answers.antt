use Rattle.mr_node.proofs.Common.{rules, arith, ◌≡◌, ◌-◌, ◌<◌, length, get_or, set, zip, no_key}
use Rattle.mr_node.proofs.KeyedLemmas.{keyed_length}
use Rattle.mr_node.proofs.ShareLemmas.{AreGivenValues, leaf_given}
use Rattle.mr_node.proofs.entry_lists.LeafEntryList.give_last.Goals.{After-push}
use Rattle.mr_node.proofs.entry_lists.LeafEntryList.give_last.Goals as goal

-- both leaves in the end
given : (g : _) (c : After-push g) → AreGivenValues (set c.args.self.now.keys (c.len-last.result - 1) no_key) (set c.args.to.now.keys c.len.result (get_or c.args.self.now.keys (c.len-last.result - 1) 0)) c.pop.new.self.items c.push.new.self.items
    (zip c.args.self.now.keys c.args.self.now.values.items) (zip c.args.to.now.keys c.args.to.now.values.items)
given g c =
    let b = c.args.self.now in
    let t = c.args.to.now in
    let long : length t.keys ≡ 32 = search rules in
    let len = keyed_length _ _ c.requires.entries in
    let room = keyed_length _ _ c.requires.to_entries in
    leaf_given (c.len-last.result - 1) c.len.result c.in-Some.value b.keys t.keys b.values.items t.values.items c.pop.new.self.items c.push.new.self.items (omega (arith, len, c.requires.some, c.len-last.ensures.value)) c.len.ensures.value c.requires.entries c.requires.to_entries long (omega (arith, room, c.requires.room)) c.in-Some.ensures.items c.push.ensures.items

pub overflow_sub-last : goal.overflow_sub-last
overflow_sub-last g c = omega (arith, keyed_length _ _ c.requires.entries, c.requires.some, c.len-last.ensures.value)

pub bounds-to-len : goal.bounds-to-len
bounds-to-len g c = omega (arith, keyed_length _ _ c.requires.to_entries, c.requires.room, c.len.ensures.value)

pub push-requires : goal.push-requires
push-requires g c =
    let room : length c.args.to.now.values.items < 32 = omega (arith, keyed_length _ _ c.requires.to_entries, c.requires.room) in
    search rules

pub unreachable-requires : goal.unreachable-requires
unreachable-requires g c =
    let room : 0 < length c.args.self.now.values.items = omega (arith, keyed_length _ _ c.requires.entries, c.requires.some) in
    search rules

pub returns-clause-entries : goal.returns-clause-entries
returns-clause-entries g c = (given g c).0

pub returns-clause-to_entries : goal.returns-clause-to_entries
returns-clause-to_entries g c = (given g c).1

pub returns-clause-rest : goal.returns-clause-rest
returns-clause-rest g c = (given g c).2

pub returns-clause-moved : goal.returns-clause-moved
returns-clause-moved g c = (given g c).3
