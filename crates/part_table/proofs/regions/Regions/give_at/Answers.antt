use Rattle.part_table.proofs.CutLemmas.{cut_found}
use Rattle.part_table.proofs.GiveLemmas.{give_from_answer, has_room, leaves_regions}
use Rattle.part_table.proofs.regions.Regions.give_at.Goals as goal

pub put_two-requires-clause-room : goal.put_two-requires-clause-room
put_two-requires-clause-room c =
    let answers = rw (← c.self.view_is) at c.requires.2 in
    has_room _ _ _ c.self.inside.list.items _ (give_from_answer _ _ _ c.self.inside.list.items _ answers) c.self.invariant

pub invariant_of-self : goal.invariant_of-self
invariant_of-self c =
    let index = rw (← c.self.view_is) at c.requires.1 in
    let answers = rw (← c.self.view_is) at c.requires.2 in
    rw (c.put_two.ensures, cut_found c.requires.0 c.args.piece.0 c.args.side c.args.at c.self.inside.list.items c.args.i c.halves.result.0 c.halves.result.1 _ index (rw c.deref.ensures.0 at c.halves.ensures))
    (leaves_regions c.requires.0 c.args.side c.args.at c.self.inside.list.items c.args.piece (give_from_answer c.requires.0 c.args.side c.args.at c.self.inside.list.items c.args.piece answers) c.self.invariant)

pub returns : goal.returns
returns c = λ p found.
    let index = rw (← c.self.view_is) at found in
    rw (← c.self.view_is, c.put_two.ensures)
    (cut_found p c.args.piece.0 c.args.side c.args.at c.self.inside.list.items c.args.i c.halves.result.0 c.halves.result.1 _ index (rw c.deref.ensures.0 at c.halves.ensures))
