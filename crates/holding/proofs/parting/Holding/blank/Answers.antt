use Rattle.holding.proofs.Common.{ap, ◌∙◌, PartState, PieceState}
use Rattle.holding.proofs.FillLemmas.{none_pending}
use Rattle.holding.proofs.parting.Holding.blank.Goals as goal

pub returns-clause-none : goal.returns-clause-none
returns-clause-none c =
    let empty = ap (λ (p : PartState). p.book) c.of.ensures.part ∙ ap (λ (p : PieceState). p.part.book) c.part.view_is ∙ c.blank.ensures in
    none_pending c.of.result c.of.ensures.rules empty (rw c.of.ensures.desk c.requires.idle)
