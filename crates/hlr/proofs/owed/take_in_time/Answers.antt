use Rattle.hlr.proofs.Common.{◌++◌, ◌∷◌, [], err_from_is_err_and, fields_of}
use Rattle.hlr.proofs.OwedFacts.{handed_taken}
use Rattle.hlr.proofs.owed.take_in_time.Goals as goal

pub returns-in_err-take_record-clause-text : goal.returns-in_err-take_record-clause-text
returns-in_err-take_record-clause-text g c =
    let passed = err_from_is_err_and c.from_residual.result c.from_residual.ensures.1 in
    λ rows start old under. rw (passed.1, passed.2) (c.in_err-take_record.ensures rows start old under)

pub returns-then-not-has_record-clause-text : goal.returns-then-not-has_record-clause-text
returns-then-not-has_record-clause-text g c = λ rows start old under.
    handed_taken rows _ start c.flush_owed.new.engine old _ _ c.flush_owed.result _
    (c.flush_owed.ensures.text (rows ++ fields_of c.args.row.now ∷ []) start old (c.in_ok-take_record.ensures rows start old under)) c.flush_owed.ensures.rest c.sink_fault.ensures

pub returns-clause-text : goal.returns-clause-text
returns-clause-text g c = λ rows start old under.
    handed_taken rows _ start c.write_owed.new.engine old _ _ c.write_owed.result _
    (c.write_owed.ensures.text (rows ++ fields_of c.args.row.now ∷ []) start old (c.in_ok-take_record.ensures rows start old under)) c.write_owed.ensures.rest c.sink_fault-2.ensures
