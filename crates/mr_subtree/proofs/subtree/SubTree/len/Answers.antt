use Rattle.mr_subtree.proofs.Common.{length, ap, ◌∙◌}
use Rattle.mr_subtree.proofs.subtree.SubTree.len.Goals as goal

pub returns : goal.returns
returns g c = c.len.ensures ∙ ap (λ s. length s.rows) c.self.view_is
