use Rattle.group_tree.proofs.PageLemmas.{walked_groups}
use Rattle.group_tree.proofs.tree.GroupTree.walk.Goals as goal

pub returns : goal.returns
returns g c =
    rw (← c.self.view_is) (walked_groups g.met.G.Group.laws _ _ (λ a b k r holds step. rw (← step.2, ← step.4) (step.3 holds)) c.self.inside.groups.rows c.self.invariant.each c.args.so_far.now c.walk.new.so_far c.walk.ensures)
