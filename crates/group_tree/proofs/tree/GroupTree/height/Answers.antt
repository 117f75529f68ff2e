use Rattle.group_tree.proofs.TreeLemmas.{height_of_rows}
use Rattle.group_tree.proofs.tree.GroupTree.height.Goals as goal

pub returns-clause-bounds : goal.returns-clause-bounds
returns-clause-bounds g c =
    rw (← c.self.view_is) (height_of_rows g.met.G.Group.laws c.self.inside.groups.rows c.self.invariant c.height.result c.height.ensures.bounds)
