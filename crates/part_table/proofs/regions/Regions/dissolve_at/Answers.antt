use Rattle.part_table.proofs.Common.{◌≡◌, ◌<◌, ℕ, Some, sym, position, dissolved, is_part}
use Rattle.part_table.proofs.BehindLemmas.{refill_anew}
use Rattle.part_table.proofs.DissolveLemmas.{dissolve_from_answer, dissolved_edit, part_behind_front, regions-dissolved}
use Rattle.part_table.proofs.RenumberLemmas.{region_lowered}
use Rattle.part_table.proofs.SplitLemmas.{higher_can_fall}
use Rattle.part_table.proofs.regions.Regions.dissolve_at.Goals as goal

pub overflow_sub-whole : goal.overflow_sub-whole
overflow_sub-whole c =
    let index = rw (← c.self.view_is) at c.requires.2 in
    let answers = rw (← c.self.view_is) at c.requires.3 in
    part_behind_front c.requires.0 c.self.inside.list.items _ (dissolve_from_answer _ c.self.inside.list.items _ answers) c.self.invariant c.args.i index

pub lower_from-requires : goal.lower_from-requires
lower_from-requires c =
    let index = rw (← c.self.view_is) at c.requires.2 in
    rw c.as_mut_slice.ensures.value (higher_can_fall c.requires.0 c.self.inside.list.items c.self.invariant c.args.i index)

-- later numbers fall, and one region stands in the place of two
edited : (c : goal.After-put_one) (p : ℕ) → 0 < c.args.i → position (is_part p) c.self.inside.list.items ≡ Some c.args.i → c.put_one.new.list.items ≡ dissolved p c.self.inside.list.items
edited c p behind index =
    rw (c.put_one.ensures, refill_anew region_lowered c.self.inside.list.items _ _ (rw c.as_mut_slice.ensures.value at c.lower_from.ensures), c.deref.ensures.0, c.deref-2.ensures.0)
    (sym (dissolved_edit p c.self.inside.list.items c.args.i behind index))

pub invariant_of-self : goal.invariant_of-self
invariant_of-self c =
    let index = rw (← c.self.view_is) at c.requires.2 in
    let answers = rw (← c.self.view_is) at c.requires.3 in
    let dissolve = dissolve_from_answer _ c.self.inside.list.items _ answers in
    rw (edited c c.requires.0 (part_behind_front c.requires.0 c.self.inside.list.items _ dissolve c.self.invariant c.args.i index) index)
    (regions-dissolved c.requires.0 c.self.inside.list.items _ dissolve c.self.invariant c.args.i index)

pub returns : goal.returns
returns c = λ p found.
    let index = rw (← c.self.view_is) at c.requires.2 in
    let answers = rw (← c.self.view_is) at c.requires.3 in
    let behind = part_behind_front c.requires.0 c.self.inside.list.items _ (dissolve_from_answer _ c.self.inside.list.items _ answers) c.self.invariant c.args.i index in
    rw (← c.self.view_is) (edited c p behind (rw (← c.self.view_is) at found))
