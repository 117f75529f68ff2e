use Rattle.holding.proofs.Common.{◌∙◌}
use Rattle.holding.proofs.FillLemmas.{box_same}
use Rattle.holding.proofs.moving.Holding.take.Goals as goal

pub returns-in-Err-clause-refused : goal.returns-in-Err-clause-refused
returns-in-Err-clause-refused c = (box_same c.args.piece _ (c.in-Err.ensures.refused.2 ∙ c.deref_mut.ensures.value), c.in-Err.ensures.refused.1)
