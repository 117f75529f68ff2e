use Rattle.mr_subtree.proofs.Common.{ap, folds_same}
use Rattle.mr_subtree.proofs.subtree.SubTree.fold.Goals as goal

pub returns : goal.returns
returns g c = folds_same _ c.args.init c.fold.result c.self.inside.root.rows c.args.self.now.rows (ap (λ s. s.rows) c.self.view_is) c.fold.ensures
