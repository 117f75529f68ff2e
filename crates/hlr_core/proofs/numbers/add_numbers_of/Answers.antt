use Rattle.hlr_core.proofs.Common.{◌∙◌, sym, err_from_is_err_and}
use Rattle.hlr_core.proofs.NotedLemmas.{rows_from_start, rows_from_end, rows_from_fewer, noting_start, noting_end, noting_row, row_refused}
use Rattle.hlr_core.proofs.numbers.add_numbers_of.Goals as goal

pub loop-row-init : goal.loop-row-init
loop-row-init g c = noting_start _ _ c.args.index.now (rows_from_start (g.O.HasSubscribers.rows_of c.args.owner.now))

pub returns-in_err-add-clause-err : goal.returns-in_err-add-clause-err
returns-in_err-add-clause-err g c =
    let why = err_from_is_err_and c.from_residual.result c.from_residual.ensures.1 in
    let refused = c.in_err-add.ensures.added in
    let h = row_refused _ c.in-Some.row.now _ _ _ c.in-Some.ensures.ordered c.in-Some.ensures.value c.loop-row.invariant c.sub_nbr.result c.in_err-add.field-0.0 c.sub_nbr.ensures refused.1 in
    rw (why.1, why.2) h

pub loop-row-smaller : goal.loop-row-smaller
loop-row-smaller g c =
    rw (c.from-from.ensures, c.s_id-in-Some.ensures.value) (rows_from_fewer c.loop-row.from _ c.in-Some.row.now c.in-Some.ensures.ordered (sym c.in-Some.ensures.value))

pub loop-row-preserved : goal.loop-row-preserved
loop-row-preserved g c =
    let added = c.in_ok-add.ensures.added in
    noting_row _ c.in-Some.row.now _ _ _ c.in-Some.ensures.ordered c.in-Some.ensures.value c.loop-row.invariant c.sub_nbr.result c.s_id.result c.from-from.result c.add.new.self c.sub_nbr.ensures c.s_id.ensures.value
    (c.from-from.ensures ∙ c.s_id-in-Some.ensures.value) added.1

pub returns-clause-ok : goal.returns-clause-ok
returns-clause-ok g c = noting_end _ _ _ _ (rows_from_end c.loop-row.from (g.O.HasSubscribers.rows_of c.args.owner.now) (sym c.in_default.ensures.value)) c.loop-row.invariant
