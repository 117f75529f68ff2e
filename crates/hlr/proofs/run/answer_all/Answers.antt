use Rattle.hlr.proofs.Common.{◌≡◌, rules, Err, outgoing}
use Rattle.hlr.specs.declared.fault.Fault.TheVariants as fault
use Rattle.hlr.proofs.RunFacts.{answered_kept, broken_kept, come_broken, come_cut, come_whole, if_some}
use Rattle.hlr.proofs.run.answer_all.Goals.{in_default-via-in-Err+in_default, in_default-via-in_default}
use Rattle.hlr.proofs.run.answer_all.Goals as goal

pub returns-in-Err-Write-clause-text : goal.returns-in-Err-Write-clause-text
returns-in-Err-Write-clause-text g c =
    let is : c.answer_records-done.result ≡ Err fault.Write = search rules in
    if_some _ _ _ (λ bytes come. come_cut _ _ bytes _ (outgoing c.empty_line-line.result.items (g.S.Sink.taken c.args.sink.now)) (outgoing c.answer_records-done.new.line.items (g.S.Sink.taken c.answer_records-done.new.sink)) _ c.answer_records-done.result c.empty_line-line.ensures is come) c.answer_records-done.ensures.text

pub returns-in-Ok-clause-text : goal.returns-in-Ok-clause-text
returns-in-Ok-clause-text g c =
    let unless : c.answer_records-done.result ≡ Err fault.Write → ⊥ = elim c.in_default.branch [
      | in_default-via-in-Err+in_default w ↦ λ is. search rules
      | in_default-via-in_default w ↦ λ is. search rules
    ] in
    if_some _ _ _ (λ bytes come. come_whole _ _ bytes _ _ (outgoing c.empty_line-line.result.items (g.S.Sink.taken c.args.sink.now)) (outgoing c.hand_on.new.line.items (g.S.Sink.taken c.hand_on.new.sink)) c.empty_line-line.ensures _ c.in-Ok.ensures.empty (λ rows all. answered_kept rows _ _ _ _ _ all c.in-Ok.ensures.text) c.answer_records-done.result unless come) c.answer_records-done.ensures.text

pub returns-in-Err-clause-text : goal.returns-in-Err-clause-text
returns-in-Err-clause-text g c =
    let unless : c.answer_records-done.result ≡ Err fault.Write → ⊥ = elim c.in_default.branch [
      | in_default-via-in-Err+in_default w ↦ λ is. search rules
      | in_default-via-in_default w ↦ λ is. search rules
    ] in
    if_some _ _ _ (λ bytes come. come_broken _ _ bytes _ _ (outgoing c.empty_line-line.result.items (g.S.Sink.taken c.args.sink.now)) (outgoing c.hand_on.new.line.items (g.S.Sink.taken c.hand_on.new.sink)) c.empty_line-line.ensures _ (λ rows all. broken_kept rows _ _ _ _ _ _ all c.in-Err.ensures.text.0 c.in-Err.ensures.text.1) c.answer_records-done.result unless come) c.answer_records-done.ensures.text
