use Rattle.hlr.proofs.Common.{arith, Err, err_from_is_err_and, refl}
use Rattle.hlr.proofs.JournaledFacts.{begun_kept, ends_kept, fails_kept, full_kept, goes_on_kept, kept_fault, kept_no_field, kept_no_thread, kept_told, read_fails_kept}
use Rattle.hlr.proofs.journaled.answer_records.Goals as goal

pub loop-count-init : goal.loop-count-init
loop-count-init g c = record {
  open_still = c.requires.open;
  few = omega arith;
  ready = c.requires.ready;
  room = c.requires.room;
  so_far = begun_kept g.D.Device.seen g.D.Device.may_leave g.D.Device.moment g.D.Device.left_since g.met.D.Device.only_now c.args.journaled.now (g.T.Source.seen.unread c.args.source.now) _ c.requires.settled c.requires.start;
}

pub loop-count-preserved : goal.loop-count-preserved
loop-count-preserved g c =
    let so = c.loop-count.invariant.so_far in
    record {
      open_still = c.in-Ok-true.ensures.open;
      few = omega arith;
      ready = c.answer_in_time.ensures.ready;
      room = c.in_ok-answer_in_time-in-Ok-true.ensures.room;
      so_far = goes_on_kept g.D.Device.seen g.D.Device.may_leave g.D.Device.moment g.D.Device.left_since _ _ _ _ _ _ _ c.in-Ok-true.ensures.reads _ _ _ _ so _ _ c.in-Ok-true.field-0-test
          (c.in_ok-answer_in_time-in-Ok-true.ensures.text so.rows _ _ _ so.kept);
    }

pub returns-in-Ok-false-clause-text : goal.returns-in-Ok-false-clause-text
returns-in-Ok-false-clause-text g c =
    ends_kept g.D.Device.seen g.D.Device.may_leave g.D.Device.moment g.D.Device.left_since _ _ _ _ _ _ _ c.in-Ok-false.ensures.reads _ _ _ _ c.loop-count.invariant.so_far _ _ c.in-Ok-false.field-0-test (omega arith)

pub returns-in_err-answer_in_time-in-Ok-true-clause-text : goal.returns-in_err-answer_in_time-in-Ok-true-clause-text
returns-in_err-answer_in_time-in-Ok-true-clause-text g c =
    let so = c.loop-count.invariant.so_far in
    let passed = err_from_is_err_and c.from_residual.result c.from_residual.ensures.1 in
    rw (passed.1, passed.2)
    (fails_kept g.D.Device.seen g.D.Device.may_leave g.D.Device.moment g.D.Device.left_since _ _ _ g.T.Source.seen c.read.new.self _ _ _ c.in-Ok-true.ensures.reads _ _ _ _ so c.in-Ok-true.field-0-test _ _ _ _ (omega arith)
    (c.in_err-answer_in_time-in-Ok-true.ensures.text so.rows _ _ _ so.kept))

pub returns-in-Err-clause-text : goal.returns-in-Err-clause-text
returns-in-Err-clause-text g c =
    read_fails_kept g.D.Device.seen g.D.Device.may_leave g.D.Device.moment g.D.Device.left_since _ _ _ g.T.Source.seen c.read.new.self c.loop-count.source _ _ _ _ _ c.in-Err.why c.loop-count.invariant.so_far c.loop-count.invariant.few c.read.ensures.begun c.in-Err.ensures.failed c.in-Err.ensures.fault

pub returns-then-count-eq-RECORDS-clause-text : goal.returns-then-count-eq-RECORDS-clause-text
returns-then-count-eq-RECORDS-clause-text g c =
    full_kept g.D.Device.seen g.D.Device.may_leave g.D.Device.moment g.D.Device.left_since _ _ _ g.T.Source.seen c.read.new.self _ _ _ c.in-Ok-true.ensures.reads _ _ _ _ c.loop-count.invariant.so_far c.in-Ok-true.field-0-test _ (omega arith)

pub returns-in_err-answer_in_time-in-Ok-true-clause-write : goal.returns-in_err-answer_in_time-in-Ok-true-clause-write
returns-in_err-answer_in_time-in-Ok-true-clause-write g c =
    let so = c.loop-count.invariant.so_far in
    let passed = err_from_is_err_and c.from_residual.result c.from_residual.ensures.1 in
    let told = kept_fault g.D.Device.seen g.D.Device.may_leave g.D.Device.moment g.D.Device.left_since so.rows _ _ _ _ _ _ _ c.in_err-answer_in_time-in-Ok-true.field-0.0 (c.in_err-answer_in_time-in-Ok-true.ensures.text so.rows _ _ _ so.kept) in
    kept_told _ _ told c.from_residual.result (rw (passed.1, passed.2) refl)

pub returns-in_err-answer_in_time-in-Ok-true-clause-field : goal.returns-in_err-answer_in_time-in-Ok-true-clause-field
returns-in_err-answer_in_time-in-Ok-true-clause-field g c =
    let so = c.loop-count.invariant.so_far in
    let passed = err_from_is_err_and c.from_residual.result c.from_residual.ensures.1 in
    let told = kept_fault g.D.Device.seen g.D.Device.may_leave g.D.Device.moment g.D.Device.left_since so.rows _ _ _ _ _ _ _ c.in_err-answer_in_time-in-Ok-true.field-0.0 (c.in_err-answer_in_time-in-Ok-true.ensures.text so.rows _ _ _ so.kept) in
    kept_no_field _ _ told c.from_residual.result (rw (passed.1, passed.2) refl)

pub returns-in_err-answer_in_time-in-Ok-true-clause-thread : goal.returns-in_err-answer_in_time-in-Ok-true-clause-thread
returns-in_err-answer_in_time-in-Ok-true-clause-thread g c =
    let so = c.loop-count.invariant.so_far in
    let passed = err_from_is_err_and c.from_residual.result c.from_residual.ensures.1 in
    let told = kept_fault g.D.Device.seen g.D.Device.may_leave g.D.Device.moment g.D.Device.left_since so.rows _ _ _ _ _ _ _ c.in_err-answer_in_time-in-Ok-true.field-0.0 (c.in_err-answer_in_time-in-Ok-true.ensures.text so.rows _ _ _ so.kept) in
    kept_no_thread _ _ told c.from_residual.result (rw (passed.1, passed.2) refl)
