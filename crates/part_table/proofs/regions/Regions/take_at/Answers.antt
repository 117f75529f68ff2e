use Rattle.part_table.proofs.JoinLemmas.{regions-joined}
use Rattle.part_table.proofs.PairLemmas.{second_within, index_within, joined_at}
use Rattle.part_table.proofs.regions.Regions.take_at.Goals as goal

pub second_index-second-requires : goal.second_index-second-requires
second_index-second-requires c = index_within c.requires.0 c.requires.1 c.args.side c.self.inside.list.items c.self.invariant c.args.i (rw (← c.self.view_is) at c.requires.2) (rw (← c.self.view_is) at c.requires.3)

pub overflow_sub-second : goal.overflow_sub-second
overflow_sub-second c = rw c.second_index-second.ensures (second_within c.requires.0 c.requires.1 c.args.side c.self.inside.list.items c.self.invariant c.args.i (rw (← c.self.view_is) at c.requires.2) (rw (← c.self.view_is) at c.requires.3)).0

pub bounds-deref-second-2 : goal.bounds-deref-second-2
bounds-deref-second-2 c = rw (c.second_index-second.ensures, c.deref-2.ensures.0) (second_within c.requires.0 c.requires.1 c.args.side c.self.inside.list.items c.self.invariant c.args.i (rw (← c.self.view_is) at c.requires.2) (rw (← c.self.view_is) at c.requires.3)).1

pub put_one-requires-clause-second : goal.put_one-requires-clause-second
put_one-requires-clause-second c = rw c.second_index-second.ensures (second_within c.requires.0 c.requires.1 c.args.side c.self.inside.list.items c.self.invariant c.args.i (rw (← c.self.view_is) at c.requires.2) (rw (← c.self.view_is) at c.requires.3)).0

pub put_one-requires-clause-within : goal.put_one-requires-clause-within
put_one-requires-clause-within c = rw c.second_index-second.ensures (second_within c.requires.0 c.requires.1 c.args.side c.self.inside.list.items c.self.invariant c.args.i (rw (← c.self.view_is) at c.requires.2) (rw (← c.self.view_is) at c.requires.3)).1

pub invariant_of-self : goal.invariant_of-self
invariant_of-self c =
    rw (c.put_one.ensures, c.joint-whole.ensures, c.deref.ensures.0, c.deref-2.ensures.0, c.second_index-second.ensures, joined_at c.requires.0 c.requires.1 c.args.side c.self.inside.list.items c.self.invariant c.args.i (rw (← c.self.view_is) at c.requires.2) (rw (← c.self.view_is) at c.requires.3))
    (regions-joined c.requires.0 c.requires.1 c.self.inside.list.items c.self.invariant)

pub returns : goal.returns
returns c = λ n q found takes.
    rw (← c.self.view_is, c.put_one.ensures, c.joint-whole.ensures, c.deref.ensures.0, c.deref-2.ensures.0, c.second_index-second.ensures)
    (joined_at n q c.args.side c.self.inside.list.items c.self.invariant c.args.i (rw (← c.self.view_is) at found) (rw (← c.self.view_is) at takes))
