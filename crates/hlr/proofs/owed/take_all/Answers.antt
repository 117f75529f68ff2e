use Rattle.hlr.proofs.Common.{arith, Err, err_from_is_err_and, ⊤, store_in, AreBrokenOff, outgoing}
use Rattle.hlr.proofs.OwedFacts.{owed_ends, owed_fails, owed_goes_on, owed_started, owed_stops, owed_stops_at_last, taken_no_field, taken_told}
use Rattle.hlr.proofs.owed.take_all.Goals as goal

pub loop-count-init : goal.loop-count-init
loop-count-init g c = record {
  open_still = c.requires.open;
  few = omega arith;
  room = rw c.requires.rest.none (omega arith);
  so_far = owed_started c.args.engine.now _ _ c.requires.rest c.requires.start;
}

pub loop-count-preserved : goal.loop-count-preserved
loop-count-preserved g c =
    let so = c.loop-count.invariant.so_far in
    record {
      open_still = c.in-Ok-true.ensures.open;
      few = omega arith;
      room = c.in_ok-take_in_time-in-Ok-true.ensures.room;
      so_far = owed_goes_on _ _ _ _ c.in-Ok-true.ensures.reads _ _ _ _ _ _ _ so c.take_in_time.new.engine c.in-Ok-true.field-0-test
          (c.in_ok-take_in_time-in-Ok-true.ensures.text so.rows _ _ so.underway);
    }

pub returns-in-Ok-false-clause-text : goal.returns-in-Ok-false-clause-text
returns-in-Ok-false-clause-text g c =
    let so = c.loop-count.invariant.so_far in
    owed_ends _ _ _ _ c.in-Ok-false.ensures.reads _ _ _ _ _ (outgoing c.loop-count.line.items (g.S.Sink.taken c.loop-count.sink)) _ so c.in-Ok-false.field-0-test (omega arith)

pub returns-in_err-take_in_time-in-Ok-true-clause-text : goal.returns-in_err-take_in_time-in-Ok-true-clause-text
returns-in_err-take_in_time-in-Ok-true-clause-text g c =
    let so = c.loop-count.invariant.so_far in
    let passed = err_from_is_err_and c.from_residual.result c.from_residual.ensures.1 in
    rw (passed.1, passed.2)
    (owed_fails g.T.Source.seen c.read.new.self _ _ _ c.in-Ok-true.ensures.reads _ _ _ _ _ _ _ so c.take_in_time.new.engine _
    c.in_err-take_in_time-in-Ok-true.field-0.0 c.in-Ok-true.field-0-test (omega arith) (c.in_err-take_in_time-in-Ok-true.ensures.text so.rows _ _ so.underway))

pub returns-in_err-take_in_time-in-Ok-true-clause-write : goal.returns-in_err-take_in_time-in-Ok-true-clause-write
returns-in_err-take_in_time-in-Ok-true-clause-write g c =
    let so = c.loop-count.invariant.so_far in
    let passed = err_from_is_err_and c.from_residual.result c.from_residual.ensures.1 in
    λ is. taken_told so.rows _ _ _ _ _ _ (Err c.in_err-take_in_time-in-Ok-true.field-0.0) (c.in_err-take_in_time-in-Ok-true.ensures.text so.rows _ _ so.underway) (rw (passed.1, passed.2) at is)

pub returns-in_err-take_in_time-in-Ok-true-clause-field : goal.returns-in_err-take_in_time-in-Ok-true-clause-field
returns-in_err-take_in_time-in-Ok-true-clause-field g c =
    let so = c.loop-count.invariant.so_far in
    let passed = err_from_is_err_and c.from_residual.result c.from_residual.ensures.1 in
    λ is. taken_no_field so.rows _ _ _ _ _ _ (Err c.in_err-take_in_time-in-Ok-true.field-0.0) (c.in_err-take_in_time-in-Ok-true.ensures.text so.rows _ _ so.underway) (rw (passed.1, passed.2) at is)

pub returns-in-Err-clause-text : goal.returns-in-Err-clause-text
returns-in-Err-clause-text g c =
    owed_stops g.T.Source.seen c.loop-count.source c.read.new.self _ _ _ _ _ _ (λ rows. AreBrokenOff rows (store_in c.args.engine.now.register) (outgoing c.args.line.now.items (g.S.Sink.taken c.args.sink.now)) (outgoing c.loop-count.line.items (g.S.Sink.taken c.loop-count.sink)) (g.S.Sink.has_stalled c.loop-count.sink)) c.in-Err.why c.loop-count.invariant.so_far c.loop-count.invariant.few c.read.ensures.begun c.in-Err.ensures.failed
    c.in-Err.ensures.fault

pub returns-then-count-eq-RECORDS-clause-text : goal.returns-then-count-eq-RECORDS-clause-text
returns-then-count-eq-RECORDS-clause-text g c =
    owed_stops_at_last g.T.Source.seen c.read.new.self _ _ _ c.in-Ok-true.ensures.reads _ _ _ _ (outgoing c.loop-count.line.items (g.S.Sink.taken c.loop-count.sink))
    (outgoing c.loop-count.line.items (g.S.Sink.taken c.loop-count.sink)) _ c.loop-count.invariant.so_far (λ rows. ⊤) c.in-Ok-true.field-0-test (omega arith)
