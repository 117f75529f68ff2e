use Rattle.mr_node.proofs.Common.{rules, arith, ◌+◌, ◌-◌, ◌<◌, drop, length, length-append, length-drop, ap, ◌∙◌, length-reverse, entries}
use Rattle.mr_node.proofs.EntryListLemmas.{entries_length}
use Rattle.mr_node.proofs.ShareLemmas.{fill_step}
use Rattle.mr_node.proofs.FrontLemmas.{turned_left, turned_front}
use Rattle.mr_node.proofs.entry_lists.InnerEntryList.give_front.Goals as goal

pub give_last-requires : goal.give_last-requires
give_last-requires g c =
    let kept = c.loop-to.invariant in
    let a = c.args.self.now in
    let t = c.args.to.now in
    let low = t.len + c.args.count in
    let to = entries_length _ _ _ c.requires.to_entries in
    let now = entries_length _ _ _ kept.0 in
    let some = turned_left c.args.count low (entries t.leasts t.children) (entries a.leasts a.children) (entries c.turn.new.self.leasts c.turn.new.self.children) (entries c.loop-to.to.leasts c.loop-to.to.children) (entries c.loop-to.self.leasts c.loop-to.self.children) c.requires.some (omega (arith, to)) c.turn.ensures.turned kept.2 (omega (arith, now, c.loop-to-test.true)) in
    (search rules, (kept.1, (kept.0, (some, omega (arith, now, to, c.requires.room, c.loop-to-test.true)))))

pub loop-to-smaller : goal.loop-to-smaller
loop-to-smaller g c =
    let kept = c.loop-to.invariant in
    let a = c.args.self.now in
    let t = c.args.to.now in
    let front = entries c.loop-to.to.leasts c.loop-to.to.children in
    let back = entries c.loop-to.self.leasts c.loop-to.self.children in
    let now = entries_length _ _ _ kept.0 in
    let some = turned_left c.args.count (t.len + c.args.count) (entries t.leasts t.children) (entries a.leasts a.children) (entries c.turn.new.self.leasts c.turn.new.self.children) front back c.requires.some (omega (arith, entries_length _ _ _ c.requires.to_entries)) c.turn.ensures.turned kept.2 (omega (arith, now, c.loop-to-test.true)) in
    omega (arith, c.loop-to-test.true, now, entries_length _ _ _ c.give_last.ensures.to_entries, ap length c.give_last.ensures.moved, length-append front (drop (length back - 1) back), length-drop (length back - 1) back, some)

pub loop-to-preserved : goal.loop-to-preserved
loop-to-preserved g c =
    let kept = c.loop-to.invariant in
    let given = c.give_last.ensures in
    let a = c.args.self.now in
    let t = c.args.to.now in
    let low = t.len + c.args.count in
    let few : length (entries c.loop-to.to.leasts c.loop-to.to.children) < low = omega (arith, entries_length _ _ _ kept.0, c.loop-to-test.true) in
    let step = fill_step low (entries t.leasts t.children) (entries c.turn.new.self.leasts c.turn.new.self.children) (entries c.loop-to.to.leasts c.loop-to.to.children) (entries c.loop-to.self.leasts c.loop-to.self.children) (entries c.give_last.new.self.leasts c.give_last.new.self.children) (entries c.give_last.new.to.leasts c.give_last.new.to.children)
    (omega (arith, entries_length _ _ _ c.requires.to_entries, c.requires.some, ap length c.turn.ensures.turned, length-reverse (entries a.leasts a.children))) kept.2 kept.3 few given.rest given.moved in
    (given.to_entries, given.entries, step.0, step.1, step.2, given.to_height ∙ kept.5, given.height ∙ kept.6)

pub returns-clause-rest : goal.returns-clause-rest
returns-clause-rest g c =
    let kept = c.loop-to.invariant in
    let a = c.args.self.now in
    let t = c.args.to.now in
    (turned_front c.args.count (t.len + c.args.count) (entries t.leasts t.children) (entries a.leasts a.children) (entries c.turn.new.self.leasts c.turn.new.self.children) (entries c.loop-to.to.leasts c.loop-to.to.children) (entries c.loop-to.self.leasts c.loop-to.self.children) (entries c.turn-2.new.self.leasts c.turn-2.new.self.children) c.requires.some (omega (arith, entries_length _ _ _ c.requires.to_entries)) c.turn.ensures.turned kept.2 kept.4 (omega (arith, entries_length _ _ _ kept.0, c.loop-to-test.false)) c.turn-2.ensures.turned).0

pub returns-clause-moved : goal.returns-clause-moved
returns-clause-moved g c =
    let kept = c.loop-to.invariant in
    let a = c.args.self.now in
    let t = c.args.to.now in
    (turned_front c.args.count (t.len + c.args.count) (entries t.leasts t.children) (entries a.leasts a.children) (entries c.turn.new.self.leasts c.turn.new.self.children) (entries c.loop-to.to.leasts c.loop-to.to.children) (entries c.loop-to.self.leasts c.loop-to.self.children) (entries c.turn-2.new.self.leasts c.turn-2.new.self.children) c.requires.some (omega (arith, entries_length _ _ _ c.requires.to_entries)) c.turn.ensures.turned kept.2 kept.4 (omega (arith, entries_length _ _ _ kept.0, c.loop-to-test.false)) c.turn-2.ensures.turned).1
