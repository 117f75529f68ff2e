use Rattle.mr_node.proofs.Common.{arith, Bool, ◌==◌, ◌≡◌, ◌≤◌, ℕ, true, nat_tests}
use Rattle.mr_node.proofs.EntryLemmas.{room_exists, room_full, room_done}
use Rattle.mr_node.proofs.entries.insert_entry.Goals as goal

-- a leaf that is full has 32 entries
full : (full : Bool) (n : ℕ) → full ≡ (n == 32) → full ≡ true → 32 ≤ n
full is n e f = grind (arith, nat_tests)

pub returns-then-is_full-clause-answer : goal.returns-then-is_full-clause-answer
returns-then-is_full-clause-answer g c =
    room_full c.args.key c.in-Err.place c.args.value.now c.args.leaf.now c.requires.leaf c.in-Err.ensures (full c.is_full.result _ c.is_full.ensures.value c.if-is_full.true) c.requires.some

pub returns-in-Ok-clause-answer : goal.returns-in-Ok-clause-answer
returns-in-Ok-clause-answer g c = room_exists c.args.key c.in-Ok.field-0 c.args.value.now c.args.leaf.now c.requires.leaf c.in-Ok.ensures c.requires.some

pub returns-else-is_full-clause-answer : goal.returns-else-is_full-clause-answer
returns-else-is_full-clause-answer g c = room_done c.args.key c.in-Err.place c.args.value.now c.args.leaf.now _ c.in-Err.ensures c.take_in.ensures.grown
