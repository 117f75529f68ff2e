use Rattle.part_table.proofs.Common.{◌∙◌, sym, err_from_is_err_and}
use Rattle.part_table.proofs.PairLemmas.{taken_both, no_piece, no_part}
use Rattle.part_table.proofs.regions.Regions.taking.Goals as goal

pub returns-in_default-clause-refused : goal.returns-in_default-clause-refused
returns-in_default-clause-refused c = rw (← c.list-regions.ensures.value) (no_piece c.args.n c.args.q _ (sym c.piece_at.ensures ∙ c.in_default.is))

pub returns-clause-index : goal.returns-clause-index
returns-clause-index c = rw (← c.list-regions.ensures.value) (sym c.piece_at.ensures ∙ c.in-Some.is)

pub returns-in_default-part_at-clause-refused : goal.returns-in_default-part_at-clause-refused
returns-in_default-part_at-clause-refused c = rw (← c.list-regions.ensures.value) (no_part c.args.n c.args.q _ _ (sym c.piece_at.ensures ∙ c.in-Some.is) (sym c.part_at.ensures ∙ c.in_default-part_at.is))

pub returns-in_err-side-clause-refused : goal.returns-in_err-side-clause-refused
returns-in_err-side-clause-refused c =
    let why = err_from_is_err_and c.from_residual.result c.from_residual.ensures.1 in
    rw (← c.list-regions.ensures.value, why.1, why.2) (taken_both c.args.n c.args.q c.list-regions.result.now c.in-Some.i c.in-Some-part_at.k _ _ (sym c.piece_at.ensures ∙ c.in-Some.is) (sym c.part_at.ensures ∙ c.in-Some-part_at.is) ∙ sym c.in_err-side.ensures)

pub returns-clause-answer : goal.returns-clause-answer
returns-clause-answer c = rw (← c.list-regions.ensures.value) (taken_both c.args.n c.args.q c.list-regions.result.now c.in-Some.i c.in-Some-part_at.k _ _ (sym c.piece_at.ensures ∙ c.in-Some.is) (sym c.part_at.ensures ∙ c.in-Some-part_at.is) ∙ sym c.in_ok-side.ensures)
