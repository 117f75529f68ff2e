use Rattle.hlr.proofs.Common.{inl}
use Rattle.hlr.proofs.JournaledFacts.{report_kept, stalled_is_write}
use Rattle.hlr.proofs.journaled.report.Goals as goal

pub returns-in_err-hand_on_synced-clause-text : goal.returns-in_err-hand_on_synced-clause-text
returns-in_err-hand_on_synced-clause-text g c = λ r is rows start first old was.
    rw (stalled_is_write _ c.from_residual.result r c.from_residual.ensures.1 is) (inl (c.in_err-hand_on_synced.ensures.text rows start first old was))

pub returns-clause-text : goal.returns-clause-text
returns-clause-text g c = λ r is rows start first old was.
    report_kept g.D.Device.seen g.D.Device.may_leave g.D.Device.moment g.D.Device.left_since rows _ start first _ old _ _ _ c.answer_report.result r
    (c.in_ok-hand_on_synced.ensures.text rows start first old was) (rw c.register.ensures at c.answer_report.ensures) is
