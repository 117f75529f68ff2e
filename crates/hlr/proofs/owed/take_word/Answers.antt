use Rattle.hlr.proofs.Common.{sym, ◌∙◌, fields_of}
use Rattle.hlr.proofs.OwedFacts.{answered_taken, command_is, report_word, recut_word}
use Rattle.hlr.proofs.RunFacts.{recut_named}
use Rattle.hlr.proofs.owed.take_word.Goals as goal

pub returns-in-Ok : goal.returns-in-Ok
returns-in-Ok g c = λ rows start old under.
    c.owe_event.ensures (fields_of c.args.row.now) _ _ (command_is _ c.args.word _ c.requires.named c.in-Ok.ensures) rows start old under

pub returns-in-Err : goal.returns-in-Err
returns-in-Err g c = λ rows start old under.
    answered_taken rows _ start _ old _ _ c.refuse.result _ (c.refuse.ensures (fields_of c.args.row.now) (command_is _ c.args.word _ c.requires.named c.in-Err.ensures) rows start old under)
    c.sink_fault.ensures

pub report-requires : goal.report-requires
report-requires g c = record { named = rw (report_word c.args.word c.in-Report.asked (sym c.kind_of.ensures ∙ c.in-Report.is)) c.requires.named }

pub returns-in-Report : goal.returns-in-Report
returns-in-Report g c = λ rows start old under. answered_taken rows _ start _ old _ _ c.report.result _ (c.report.ensures rows start old under) c.sink_fault-in-Report.ensures

pub recut-requires : goal.recut-requires
recut-requires g c = record { named = recut_named (fields_of c.args.row.now) (rw (recut_word c.args.word (sym c.kind_of.ensures ∙ c.in-Recut.is)) at c.requires.named) }

pub returns-in-Recut : goal.returns-in-Recut
returns-in-Recut g c = λ rows start old under. answered_taken rows _ start _ old _ _ c.recut.result _ (c.recut.ensures rows start old under) c.sink_fault-in-Recut.ensures
