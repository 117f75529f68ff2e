use Rattle.part_table.proofs.Common.{◌∙◌, sym, err_from_is_err_and}
use Rattle.part_table.proofs.GivingLemmas.{answer_at, answer_none}
use Rattle.part_table.proofs.regions.Regions.giving.Goals as goal

pub returns-in_default-clause-refused : goal.returns-in_default-clause-refused
returns-in_default-clause-refused c = rw (← c.list-regions.ensures.value) (answer_none c.args.p c.args.side c.args.at _ (sym c.part_at.ensures ∙ c.in_default.is))

pub returns-in_err-piece-clause-refused : goal.returns-in_err-piece-clause-refused
returns-in_err-piece-clause-refused c =
    let why = err_from_is_err_and c.from_residual.result c.from_residual.ensures.1 in
    rw (← c.list-regions.ensures.value, why.1, why.2) (answer_at c.args.p c.args.side c.args.at c.list-regions.result.now c.in-Some.i _ (sym c.part_at.ensures ∙ c.in-Some.is) ∙ sym c.in_err-piece.ensures)

pub returns-clause-index : goal.returns-clause-index
returns-clause-index c = rw (← c.list-regions.ensures.value) (sym c.part_at.ensures ∙ c.in-Some.is)

pub returns-clause-answer : goal.returns-clause-answer
returns-clause-answer c =
    rw (← c.list-regions.ensures.value) (answer_at c.args.p c.args.side c.args.at c.list-regions.result.now c.in-Some.i _ (sym c.part_at.ensures ∙ c.in-Some.is) ∙ sym c.in_ok-piece.ensures)
