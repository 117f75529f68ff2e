use Rattle.mr_subtree.proofs.Common.{subst, IsPage}
use Rattle.mr_subtree.proofs.subtree.SubTree.page_from.Goals as goal

pub returns : goal.returns
returns g c = subst (λ s. IsPage c.args.key s.rows c.page_from.new.page.items) c.self.view_is c.page_from.ensures
