use Rattle.part_table.proofs.Common.{◌≡◌, ◌+◌, ℕ, Some, arith, position, divided, is_part}
use Rattle.part_table.proofs.BehindLemmas.{length_anew, refill_anew}
use Rattle.part_table.proofs.DivideLemmas.{bound_fits, divide_from_answer, divide_room, divided_by, regions-divided}
use Rattle.part_table.proofs.RenumberLemmas.{region_raised}
use Rattle.part_table.proofs.SplitLemmas.{higher_can_rise, own_can_rise}
use Rattle.part_table.proofs.regions.Regions.divide_at.Goals as goal

pub overflow_cast-at : goal.overflow_cast-at
overflow_cast-at c =
    let answers = rw (← c.self.view_is) at c.requires.3 in
    omega (arith, bound_fits c.requires.0 c.args.at c.self.inside.list.items _ (divide_from_answer _ _ c.self.inside.list.items _ c.self.invariant answers) c.self.invariant)

pub divided-requires : goal.divided-requires
divided-requires c =
    let index = rw (← c.self.view_is) at c.requires.2 in
    rw c.deref.ensures.0 (own_can_rise c.requires.0 c.self.inside.list.items c.self.invariant c.args.i index)

pub raise_from-requires : goal.raise_from-requires
raise_from-requires c =
    let index = rw (← c.self.view_is) at c.requires.2 in
    rw c.as_mut_slice.ensures.value (higher_can_rise c.requires.0 c.self.inside.list.items c.self.invariant c.args.i index)

pub put_two-requires-clause-room : goal.put_two-requires-clause-room
put_two-requires-clause-room c =
    let answers = rw (← c.self.view_is) at c.requires.3 in
    rw (refill_anew region_raised c.self.inside.list.items _ _ (rw c.as_mut_slice.ensures.value at c.raise_from.ensures), length_anew region_raised c.self.inside.list.items (c.args.i + 1))
    (divide_room c.requires.0 c.args.at c.self.inside.list.items _ (divide_from_answer _ _ c.self.inside.list.items _ c.self.invariant answers) c.self.invariant)

-- later numbers rise, and two regions stand in the place of one
edited : (c : goal.After-put_two) (p : ℕ) → position (is_part p) c.self.inside.list.items ≡ Some c.args.i → c.put_two.new.list.items ≡ divided p c.args.at c.self.inside.list.items
edited c p index =
    rw (c.put_two.ensures, refill_anew region_raised c.self.inside.list.items _ _ (rw c.as_mut_slice.ensures.value at c.raise_from.ensures))
    (divided_by p c.args.at c.self.inside.list.items c.args.i c.self.invariant index c.divided.result.0 c.divided.result.1 (rw c.deref.ensures.0 at c.divided.ensures.low) (rw c.deref.ensures.0 at c.divided.ensures.high))

pub invariant_of-self : goal.invariant_of-self
invariant_of-self c =
    let index = rw (← c.self.view_is) at c.requires.2 in
    let answers = rw (← c.self.view_is) at c.requires.3 in
    rw (edited c c.requires.0 index)
    (regions-divided c.requires.0 c.args.at c.self.inside.list.items _ (divide_from_answer _ _ c.self.inside.list.items _ c.self.invariant answers) c.self.invariant c.args.i index)

pub returns : goal.returns
returns c = λ p found. rw (← c.self.view_is) (edited c p (rw (← c.self.view_is) at found))
