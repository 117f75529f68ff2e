use Rattle.holding.proofs.Common.{◌∙◌, ap, HoldingState}
use Rattle.holding.proofs.parting.Holding.divide.Goals as goal

pub returns-in-Ok-fill-clause-divided : goal.returns-in-Ok-fill-clause-divided
returns-in-Ok-fill-clause-divided c =
    let was = ap (λ (h : HoldingState). h.desk) c.deref_mut.ensures.value in
    record {
      given = c.in-Ok-fill.ensures.given;
      counts = c.in-Ok-fill.ensures.counts;
      own = c.fill.ensures.desk ∙ was ∙ c.in-Ok.ensures.desk;
    }
