use Rattle.hlr.proofs.Common.{◌≡◌, refl, rules, Err, outgoing}
use Rattle.hlr.specs.declared.fault.Fault.TheVariants as fault
use Rattle.hlr.proofs.JournaledFacts.{kept_so, ran_cut, ran_synced}
use Rattle.hlr.proofs.journaled.answer_all.Goals.{in_default-via-in-Err+in_default, in_default-via-in_default}
use Rattle.hlr.proofs.journaled.answer_all.Goals as goal

pub returns-in-Err-Write-clause-text : goal.returns-in-Err-Write-clause-text
returns-in-Err-Write-clause-text g c =
    let is : c.answer_records-done.result ≡ Err fault.Write = search rules in
    let come = c.answer_records-done.ensures.text in
    ran_cut g.D.Device.may_leave g.D.Device.moment g.D.Device.left_since _ _ _ _ _ come.rows (outgoing c.empty_line-line.result.items (g.S.Sink.taken c.args.sink.now))
    (outgoing c.answer_records-done.new.line.items (g.S.Sink.taken c.answer_records-done.new.sink)) _ c.answer_records-done.result c.empty_line-line.ensures come.few come.read (rw is at come.holds)

pub returns-in-Ok-clause-text : goal.returns-in-Ok-clause-text
returns-in-Ok-clause-text g c =
    let unless : c.answer_records-done.result ≡ Err fault.Write → ⊥ = elim c.in_default.branch [
      | in_default-via-in-Err+in_default w ↦ λ is. search rules
      | in_default-via-in_default w ↦ λ is. search rules
    ] in
    let come = c.answer_records-done.ensures.text in
    let kept = kept_so g.D.Device.seen g.D.Device.may_leave g.D.Device.moment g.D.Device.left_since come.rows _ _ _ _ _ _ c.answer_records-done.result unless come.holds in
    ran_synced g.D.Device.may_leave g.D.Device.moment g.D.Device.left_since _ _ _ _ _ g.D.Device.seen come.rows c.hand_on_synced.new.journaled (outgoing c.empty_line-line.result.items (g.S.Sink.taken c.args.sink.now))
    (outgoing c.hand_on_synced.new.line.items (g.S.Sink.taken c.hand_on_synced.new.sink)) c.answer_records-done.result refl c.empty_line-line.ensures c.in-Ok.ensures.empty unless come.few come.read
    (c.in-Ok.ensures.text come.rows _ _ _ kept)

pub returns-in-Err-clause-text : goal.returns-in-Err-clause-text
returns-in-Err-clause-text g c =
    let unless : c.answer_records-done.result ≡ Err fault.Write → ⊥ = elim c.in_default.branch [
      | in_default-via-in-Err+in_default w ↦ λ is. search rules
      | in_default-via-in_default w ↦ λ is. search rules
    ] in
    let come = c.answer_records-done.ensures.text in
    let kept = kept_so g.D.Device.seen g.D.Device.may_leave g.D.Device.moment g.D.Device.left_since come.rows _ _ _ _ _ _ c.answer_records-done.result unless come.holds in
    ran_cut g.D.Device.may_leave g.D.Device.moment g.D.Device.left_since _ _ _ _ _ come.rows (outgoing c.empty_line-line.result.items (g.S.Sink.taken c.args.sink.now))
    (outgoing c.hand_on_synced.new.line.items (g.S.Sink.taken c.hand_on_synced.new.sink)) _ c.answer_records-done.result c.empty_line-line.ensures come.few come.read
    (c.in-Err.ensures.text come.rows _ _ _ kept)
