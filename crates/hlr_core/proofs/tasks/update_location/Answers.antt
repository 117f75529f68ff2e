use Rattle.hlr_core.proofs.Common.{err_from_is_err_and}
use Rattle.hlr_core.proofs.TaskLemmas.{asks_so, refused_so}
use Rattle.hlr_core.proofs.tasks.update_location.Goals as goal

pub returns : goal.returns
returns c =
    asks_so _ _ _ (rw c.in_ok-edit.was at c.update_location.ensures.asked) (rw c.in_ok-edit.was at c.update_location.ensures.action) (rw c.in_ok-edit.was at c.update_location.ensures.fit)

pub returns-in_err-edit : goal.returns-in_err-edit
returns-in_err-edit c =
    let p = err_from_is_err_and c.from_residual.result c.from_residual.ensures.1 in
    rw (p.1, p.2) (refused_so _ _ c.in_err-edit.field-0.0 (rw c.in_err-edit.was at c.update_location.ensures.asked))
