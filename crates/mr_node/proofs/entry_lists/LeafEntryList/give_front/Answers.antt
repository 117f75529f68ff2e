use Rattle.mr_node.proofs.Common.{rules, arith, ◌≡◌, drop, length, ap, zip, AreKeyed}
use Rattle.mr_node.proofs.KeyedLemmas.{keyed_length}
use Rattle.mr_node.proofs.FrontLemmas.{front_closed, front_dropped}
use Rattle.mr_node.proofs.entry_lists.LeafEntryList.give_front.Goals.{After-drop_keys}
use Rattle.mr_node.proofs.entry_lists.LeafEntryList.give_front.Goals as goal

-- the leaf without its first entries
dropped : (g : _) (c : After-drop_keys g) → (AreKeyed c.drop_keys.new.keys c.truncate.new.self.items) × (zip c.drop_keys.new.keys c.truncate.new.self.items ≡ drop c.args.count (zip c.args.self.now.keys c.args.self.now.values.items))
dropped g c =
    let a = c.args.self.now in
    let values = front_closed c.args.count c.len-len.result a.values.items c.move_front.new.values.items c.as_mut_slice.result.now c.close_front.new.places c.truncate.new.self.items c.move_front.ensures.len c.len-len.ensures.value c.as_mut_slice.ensures.value c.close_front.ensures.len c.close_front.ensures.front c.move_front.ensures.rest c.truncate.ensures.items in
    front_dropped c.args.count a.keys c.drop_keys.new.keys a.values.items c.truncate.new.self.items c.requires.entries (omega (arith, keyed_length _ _ c.requires.entries, c.requires.some)) c.drop_keys.ensures values

pub move_front-requires : goal.move_front-requires
move_front-requires g c =
    (search rules, (search rules, (c.requires.entries, (c.requires.to_entries, (omega (arith, keyed_length _ _ c.requires.entries, c.requires.some), omega (arith, keyed_length _ _ c.requires.to_entries, c.requires.room))))))

pub close_front-requires : goal.close_front-requires
close_front-requires g c = omega (arith, keyed_length _ _ c.requires.entries, c.requires.some, c.move_front.ensures.len, ap length c.as_mut_slice.ensures.value)

pub overflow_sub-len : goal.overflow_sub-len
overflow_sub-len g c = omega (arith, keyed_length _ _ c.requires.entries, c.requires.some, c.len-len.ensures.value)

pub returns-clause-entries : goal.returns-clause-entries
returns-clause-entries g c = (dropped g c).0

pub returns-clause-rest : goal.returns-clause-rest
returns-clause-rest g c = (dropped g c).1
