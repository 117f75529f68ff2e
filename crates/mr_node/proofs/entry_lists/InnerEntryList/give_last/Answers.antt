use Rattle.mr_node.proofs.Common.{rules, arith, ◌≡◌, ◌+◌, ◌-◌, length, get_or, set, no_key, entries}
use Rattle.mr_node.proofs.EntryListLemmas.{entries_length}
use Rattle.mr_node.proofs.ShareLemmas.{IsGiven, inner_given}
use Rattle.mr_node.proofs.entry_lists.InnerEntryList.give_last.Goals.{After-take}
use Rattle.mr_node.proofs.entry_lists.InnerEntryList.give_last.Goals as goal

-- both parts in the end
given : (g : _) (c : After-take g) → IsGiven (c.args.self.now.len - 1) (c.args.to.now.len + 1) (set c.args.self.now.leasts (c.args.self.now.len - 1) no_key) (set c.args.to.now.leasts c.args.to.now.len (get_or c.args.self.now.leasts (c.args.self.now.len - 1) 0))
    (set c.args.self.now.children (c.args.self.now.len - 1) c.take.new.self) (set c.args.to.now.children c.args.to.now.len c.take.result) (entries c.args.self.now.leasts c.args.self.now.children) (entries c.args.to.now.leasts c.args.to.now.children)
given g c =
    let b = c.args.self.now in
    let t = c.args.to.now in
    let long : length t.leasts ≡ 32 = search rules in
    let wide : length t.children ≡ 32 = search rules in
    let len = entries_length _ _ _ c.requires.entries in
    let room = entries_length _ _ _ c.requires.to_entries in
    inner_given b.len (b.len - 1) t.len c.index-self-last.result c.take.new.self c.take.result b.leasts t.leasts b.children t.children (omega (arith, len, c.requires.some)) c.requires.entries c.requires.to_entries long wide (omega (arith, room, c.requires.room)) c.take.ensures.value c.take.ensures.after

pub overflow_sub-self : goal.overflow_sub-self
overflow_sub-self g c = omega (arith, entries_length _ _ _ c.requires.entries, c.requires.some)

pub bounds-to-to : goal.bounds-to-to
bounds-to-to g c = omega (arith, entries_length _ _ _ c.requires.to_entries, c.requires.room)

pub listed-2 : goal.listed-2
listed-2 g c =
    let wide : length c.args.to.now.children ≡ 32 = search rules in
    omega (arith, entries_length _ _ _ c.requires.to_entries, c.requires.room, wide)

pub way_replace-to : goal.way_replace-to
way_replace-to g c = omega (arith, entries_length _ _ _ c.requires.to_entries, c.requires.room)

pub returns-clause-entries : goal.returns-clause-entries
returns-clause-entries g c = (given g (goal.at.returns-clause-entries g c).After-take).0

pub returns-clause-to_entries : goal.returns-clause-to_entries
returns-clause-to_entries g c = (given g (goal.at.returns-clause-to_entries g c).After-take).1

pub returns-clause-rest : goal.returns-clause-rest
returns-clause-rest g c = (given g (goal.at.returns-clause-rest g c).After-take).2

pub returns-clause-moved : goal.returns-clause-moved
returns-clause-moved g c = (given g (goal.at.returns-clause-moved g c).After-take).3
