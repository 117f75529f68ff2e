use Rattle.group_tree.proofs.Common.{rules}
use Rattle.group_tree.proofs.CutLemmas.{apart_inside, are_joined, groups_apart, rows_joined}
use Rattle.group_tree.proofs.tree.GroupTree.meld_from.Goals as goal

pub meld_from-requires : goal.meld_from-requires
meld_from-requires g c =
    let apart = apart_inside g.met.G.Group.laws _ c.args.self.now _ c.args.high.now c.self.view_is c.high.view_is c.requires.apart in
    (search rules, (search rules, (groups_apart g.met.G.Group.laws c.self.inside.groups.rows c.high.inside.groups.rows c.self.invariant c.high.invariant apart, search rules)))

pub invariant_of-self : goal.invariant_of-self
invariant_of-self g c =
    let apart = apart_inside g.met.G.Group.laws _ c.args.self.now _ c.args.high.now c.self.view_is c.high.view_is c.requires.apart in
    rw c.meld_from.ensures.rows (are_joined g.met.G.Group.laws c.self.inside.groups.rows c.high.inside.groups.rows c.self.invariant c.high.invariant apart)

pub returns-clause-rows : goal.returns-clause-rows
returns-clause-rows g c =
    rw (← c.self.view_is, ← c.high.view_is, c.meld_from.ensures.rows) (rows_joined g.met.G.Group.laws c.self.inside.groups.rows c.high.inside.groups.rows)
