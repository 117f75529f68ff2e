use Rattle.part_table.proofs.Common.{◌∙◌, sym, arith, err_from_is_err_and}
use Rattle.part_table.proofs.DivideLemmas.{divide_at_index, divide_nowhere}
use Rattle.part_table.proofs.SplitLemmas.{own_below}
use Rattle.part_table.proofs.regions.Regions.dividing.Goals as goal

pub returns-in_default-clause-refused : goal.returns-in_default-clause-refused
returns-in_default-clause-refused c = rw (← c.list-regions.ensures.value) (divide_nowhere c.args.p c.args.at _ (sym c.part_at.ensures ∙ c.in_default.is))

pub divide_answer_of-requires : goal.divide_answer_of-requires
divide_answer_of-requires c = omega (arith, own_below c.args.p c.list-regions.result.now c.list-regions.ensures.regions c.in-Some.i (sym c.part_at.ensures ∙ c.in-Some.is))

pub returns-in_err-told-clause-refused : goal.returns-in_err-told-clause-refused
returns-in_err-told-clause-refused c =
    let why = err_from_is_err_and c.from_residual.result c.from_residual.ensures.1 in
    rw (← c.list-regions.ensures.value, why.1, why.2) (divide_at_index c.args.p c.args.at c.list-regions.result.now c.in-Some.i _ (sym c.part_at.ensures ∙ c.in-Some.is) ∙ sym c.in_err-told.ensures)

pub returns-clause-answer : goal.returns-clause-answer
returns-clause-answer c =
    rw (← c.list-regions.ensures.value) (divide_at_index c.args.p c.args.at c.list-regions.result.now c.in-Some.i _ (sym c.part_at.ensures ∙ c.in-Some.is) ∙ sym c.in_ok-told.ensures)
