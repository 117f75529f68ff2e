use Rattle.hlr.proofs.Common.{◌++◌, ◌∷◌, [], err_from_is_err_and, fields_of}
use Rattle.hlr.proofs.JournaledFacts.{handed_kept}
use Rattle.hlr.proofs.journaled.answer_in_time.Goals as goal

pub returns-in_err-answer-clause-text : goal.returns-in_err-answer-clause-text
returns-in_err-answer-clause-text g c =
    let passed = err_from_is_err_and c.from_residual.result c.from_residual.ensures.1 in
    λ rows start first old was. rw (passed.1, passed.2) (c.in_err-answer.ensures.text rows start first old was)

pub returns-then-not-has_record-clause-text : goal.returns-then-not-has_record-clause-text
returns-then-not-has_record-clause-text g c = λ rows start first old was.
    handed_kept g.D.Device.seen g.D.Device.may_leave g.D.Device.moment g.D.Device.left_since rows _ start first _ old _ _ c.flush_synced.result _
    (c.flush_synced.ensures.text (rows ++ fields_of c.args.row.now ∷ []) start first old (c.in_ok-answer.ensures.text rows start first old was)) c.sink_fault.ensures

pub returns-clause-text : goal.returns-clause-text
returns-clause-text g c = λ rows start first old was.
    handed_kept g.D.Device.seen g.D.Device.may_leave g.D.Device.moment g.D.Device.left_since rows _ start first _ old _ _ c.hand_on_synced.result _
    (c.hand_on_synced.ensures.text (rows ++ fields_of c.args.row.now ∷ []) start first old (c.in_ok-answer.ensures.text rows start first old was)) c.sink_fault-2.ensures
