use Rattle.mr_subtree.proofs.Common.{ap, ◌∙◌, find, leb}
use Rattle.mr_subtree.proofs.subtree.SubTree.first_from.Goals as goal

pub returns : goal.returns
returns g c = c.first_from.ensures ∙ ap (λ s. find (λ p. leb c.args.key p.0) s.rows) c.self.view_is
