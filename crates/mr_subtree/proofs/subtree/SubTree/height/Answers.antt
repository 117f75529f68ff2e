use Rattle.mr_subtree.proofs.Common.{arith, ap, ◌∙◌}
use Rattle.mr_subtree.proofs.RootFacts.{bounds_seen, low_root}
use Rattle.mr_subtree.proofs.subtree.SubTree.height.Goals as goal

pub returns-clause-bounds : goal.returns-clause-bounds
returns-clause-bounds g c = bounds_seen c.height.result c.self.inside.root c.args.self.now c.self.invariant c.height.ensures.value c.self.view_is

pub returns-clause-low : goal.returns-clause-low
returns-clause-low g c = omega (arith, low_root c.self.inside.root c.self.invariant, c.height.ensures.value)

pub returns-clause-value : goal.returns-clause-value
returns-clause-value g c = c.height.ensures.value ∙ ap (λ s. s.height) c.self.view_is
