use Rattle.mr_node.proofs.Common.{arith, ◌∙◌, ◌<◌, length}
use Rattle.mr_node.proofs.ShareLemmas.{spill_step, spill_room}
use Rattle.mr_node.proofs.entry_lists.spill.Goals as goal

pub give_last-requires-clause-room : goal.give_last-requires-clause-room
give_last-requires-clause-room g c =
    let many : c.args.low < length (g.R.EntryList.list c.loop-left.left) = omega (arith, c.width.ensures, c.loop-left-test.true) in
    spill_room c.args.low (g.R.EntryList.list c.args.left.now) (g.R.EntryList.list c.args.right.now) (g.R.EntryList.list c.loop-left.left) (g.R.EntryList.list c.loop-left.right) c.requires.room c.loop-left.invariant.2 many

pub loop-left-preserved : goal.loop-left-preserved
loop-left-preserved g c =
    let kept = c.loop-left.invariant in
    let given = c.give_last.ensures in
    let many : c.args.low < length (g.R.EntryList.list c.loop-left.left) = omega (arith, c.width.ensures, c.loop-left-test.true) in
    let step = spill_step c.args.low (g.R.EntryList.list c.args.left.now) (g.R.EntryList.list c.args.right.now) (g.R.EntryList.list c.loop-left.left) (g.R.EntryList.list c.loop-left.right) (g.R.EntryList.list c.give_last.new.self) (g.R.EntryList.list c.give_last.new.to) kept.2 kept.3 many given.rest given.moved in
    (given.entries, given.to_entries, step.0, step.1, step.2, given.height ∙ kept.5, given.to_height ∙ kept.6)
