use Rattle.hlr.proofs.Common.{◌≡◌, true, false, rules, arith, is_err, ⊤, store_in, AreBrokenOff, outgoing, StopsBehind}
use Rattle.hlr.proofs.RunFacts.{breaks, ends, goes_on, if_known, if_some, read_is_no_write, started, stopped_by_read, stops_full, stops_so}
use Rattle.hlr.proofs.SinkFacts.{adds_front}
use Rattle.hlr.proofs.run.answer_records.Goals as goal

pub loop-count-init : goal.loop-count-init
loop-count-init g c = record {
  open_still = c.requires.open;
  few = omega arith;
  home = c.requires.home;
  room = c.requires.room;
  so_far = if_known (g.T.Source.seen.unread c.args.source.now).bytes _ (λ bytes is.
      started bytes (g.T.Source.seen.unread c.args.source.now) c.args.register.now (outgoing c.args.line.now.items (g.S.Sink.taken c.args.sink.now)) is c.requires.start);
}

pub returns-in-Ok-false-clause-text : goal.returns-in-Ok-false-clause-text
returns-in-Ok-false-clause-text g c =
    if_some _ _ _ (λ bytes so.
    ends _ bytes _ _ _ c.loop-count.register c.loop-count.register _ _ (outgoing c.loop-count.line.items (g.S.Sink.taken c.loop-count.sink)) _ so _ c.in-Ok-false.ensures.reads c.in-Ok-false.field-0-test (omega arith)) c.loop-count.invariant.so_far

pub returns-then-is_err-clause-text : goal.returns-then-is_err-clause-text
returns-then-is_err-clause-text g c =
    let failed : is_err c.answer_in_time.result ≡ true = search rules in
    if_some _ _ _ (λ bytes so.
    breaks _ bytes _ _ _ c.loop-count.register c.answer_in_time.new.register _ _ _ _ so _ c.in-Ok-true.ensures.reads c.in-Ok-true.field-0-test _ c.answer_in_time.result failed c.answer_in_time.ensures.text (omega arith)) c.loop-count.invariant.so_far

pub returns-in-Err-clause-text : goal.returns-in-Err-clause-text
returns-in-Err-clause-text g c =
    if_some _ _ _ (λ bytes so.
    stops_so (StopsBehind g.T.Source.seen false bytes c.read.new.self)
    (λ rows. AreBrokenOff rows (store_in c.args.register.now) (outgoing c.args.line.now.items (g.S.Sink.taken c.args.sink.now)) (outgoing c.loop-count.line.items (g.S.Sink.taken c.loop-count.sink)) (g.S.Sink.has_stalled c.loop-count.sink)) _ _ _ c.loop-count.register _ _ _ _ so c.loop-count.invariant.few (read_is_no_write _ c.in-Err.ensures.fault)
    (stopped_by_read g.T.Source.seen false bytes so.rows c.read.new.self c.loop-count.source _ so.read c.read.ensures.begun c.in-Err.ensures.failed c.in-Err.ensures.fault)) c.loop-count.invariant.so_far

pub returns-then-count-eq-RECORDS-clause-text : goal.returns-then-count-eq-RECORDS-clause-text
returns-then-count-eq-RECORDS-clause-text g c =
    if_some _ _ _ (λ bytes so.
    stops_full g.T.Source.seen c.read.new.self (λ rows. ⊤) _ bytes _ _ c.loop-count.register _ _ _ so _ c.in-Ok-true.ensures.reads c.in-Ok-true.field-0-test (omega arith)) c.loop-count.invariant.so_far

pub loop-count-preserved : goal.loop-count-preserved
loop-count-preserved g c =
    let passed : is_err c.answer_in_time.result ≡ false = search rules in
    record {
      open_still = c.in-Ok-true.ensures.open;
      few = omega arith;
      home = c.answer_in_time.ensures.home;
      room = search rules;
      so_far = if_some _ _ _ (λ bytes so.
          goes_on _ bytes _ _ _ c.loop-count.register c.answer_in_time.new.register _ _ _ _ so _ c.in-Ok-true.ensures.reads c.in-Ok-true.field-0-test _ c.answer_in_time.result passed c.answer_in_time.ensures.text) c.loop-count.invariant.so_far;
    }

pub returns-then-is_err-clause-write : goal.returns-then-is_err-clause-write
returns-then-is_err-clause-write g c = λ is.
    let failed : is_err c.answer_in_time.result ≡ true = search rules in
    (adds_front _ _ _ _ c.answer_in_time.result failed c.answer_in_time.ensures.text.put).1
