use Rattle.hlr_core.proofs.Common.{err_from_is_err_and, done_reply}
use Rattle.hlr_core.proofs.WhileOutLemmas.{asked_while_out, unasked_while_out}
use Rattle.hlr_core.proofs.LaterLemmas.{answered_registered}
use Rattle.hlr_core.proofs.RegisterLemmas.{asked_step, edited_is, unasked_step}
use Rattle.hlr_core.proofs.register.Register.edit.Goals as goal

pub invariant_of-self : goal.invariant_of-self
invariant_of-self g c =
    answered_registered _ (g.E.Edit.action c.in_ok-edit.edit) _ _ (done_reply c.edit.result) _ (rw (c.in_ok-edit.was) at c.requires.action).1 c.self.invariant c.edit.ensures.rows c.edit.ensures.answer

pub returns-clause-step : goal.returns-clause-step
returns-clause-step g c = λ fits wanted asked.
    rw (← c.self.view_is) (asked_step fits wanted (g.E.Edit.action c.in_ok-edit.edit) _ _ (done_reply c.edit.result) _ (rw (c.in_ok-edit.was) at c.requires.action).1 (rw (c.in_ok-edit.was) at asked) c.edit.ensures.answer
    c.edit.ensures.store (edited_is c.edit.result))

pub returns-in_err-edit-clause-step : goal.returns-in_err-edit-clause-step
returns-in_err-edit-clause-step g c = λ fits wanted asked.
    let p = err_from_is_err_and c.from_residual.result c.from_residual.ensures.1 in
    rw (p.1, p.2) (unasked_step fits wanted c.in_err-edit.field-0.0 _ (rw (c.in_err-edit.was) at asked))

pub returns-clause-while_out : goal.returns-clause-while_out
returns-clause-while_out g c = λ fits wanted asked.
    rw (← c.self.view_is) (asked_while_out fits wanted (g.E.Edit.action c.in_ok-edit.edit) c.self.inside.owners c.edit.new.self (done_reply c.edit.result) _ (rw (c.in_ok-edit.was) at c.requires.action).1 (rw (c.in_ok-edit.was) at asked) c.edit.ensures.while_out
    (edited_is c.edit.result))

pub returns-in_err-edit-clause-while_out : goal.returns-in_err-edit-clause-while_out
returns-in_err-edit-clause-while_out g c = λ fits wanted asked.
    let p = err_from_is_err_and c.from_residual.result c.from_residual.ensures.1 in
    rw (p.1, p.2) (unasked_while_out fits wanted c.in_err-edit.field-0.0 c.args.self.now (rw (c.in_err-edit.was) at asked))
