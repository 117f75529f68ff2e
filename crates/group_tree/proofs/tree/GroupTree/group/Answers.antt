use Rattle.group_tree.proofs.TreeLemmas.{group_found, group_missing}
use Rattle.group_tree.proofs.tree.GroupTree.group.Goals as goal

pub returns-clause-found : goal.returns-clause-found
returns-clause-found g c =
    rw (← c.self.view_is) (group_found g.met.G.Group.laws c.self.invariant c.args.key c.base.ensures c.get.result c.get.ensures)

pub returns-clause-none : goal.returns-clause-none
returns-clause-none g c =
    rw (← c.self.view_is) (group_missing g.met.G.Group.laws c.self.invariant c.args.key c.base.ensures c.get.result c.get.ensures)
