use Rattle.hlr.proofs.Common.{refl, sym, ◌∙◌, fields_of}
use Rattle.hlr.proofs.JournaledFacts.{command_kept, event_kept, refusal_joins}
use Rattle.hlr.proofs.OwedFacts.{command_is, report_word, recut_word}
use Rattle.hlr.proofs.RunFacts.{recut_named}
use Rattle.hlr.proofs.journaled.answer_word.Goals as goal

pub returns-in-Ok-clause-text : goal.returns-in-Ok-clause-text
returns-in-Ok-clause-text g c =
    event_kept g.D.Device.seen g.D.Device.may_leave g.D.Device.moment g.D.Device.left_since _ _ _ _ _ _ _ _ _ (command_is _ c.args.word _ c.requires.named c.in-Ok.ensures) c.answer_event.ensures.joins c.answer_event.ensures.refused

pub returns-in-Err-clause-text : goal.returns-in-Err-clause-text
returns-in-Err-clause-text g c =
    command_kept g.D.Device.seen g.D.Device.may_leave g.D.Device.moment g.D.Device.left_since _ _ _ _ _ _ _ (command_is _ c.args.word _ c.requires.named c.in-Err.ensures)
    (refusal_joins _ _ _ _ _ _ _ _ (refl, refl) c.build_refused.ensures)

pub report-requires : goal.report-requires
report-requires g c = record {
  named = rw (report_word c.args.word c.in-Report.asked (sym c.kind_of.ensures ∙ c.in-Report.is)) c.requires.named;
  ready = c.requires.ready;
  room = c.requires.room;
}

pub returns-in-Report-clause-text : goal.returns-in-Report-clause-text
returns-in-Report-clause-text g c = c.report.ensures.text _ c.sink_fault.ensures

pub returns-in-Recut-clause-text : goal.returns-in-Recut-clause-text
returns-in-Recut-clause-text g c =
    command_kept g.D.Device.seen g.D.Device.may_leave g.D.Device.moment g.D.Device.left_since _ _ _ _ _ _ _
    (recut_named (fields_of c.args.row.now) (rw (recut_word c.args.word (sym c.kind_of.ensures ∙ c.in-Recut.is)) at c.requires.named)) c.recut.ensures.joins
