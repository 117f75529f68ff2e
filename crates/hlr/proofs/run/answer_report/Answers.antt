use Rattle.hlr.proofs.Common.{refl, sym, ◌∙◌, Ok, Err, fields_of, store_in}
use Rattle.tatp_rows.specs.declared.refusal.Refusal.TheVariants as refusal
use Rattle.hlr.proofs.RunFacts.{answered, answered_by, command_of_report, report_answers, report_named, report_refused}
use Rattle.hlr.proofs.run.answer_report.Goals as goal

pub returns-then-len-ne1 : goal.returns-then-len-ne1
returns-then-len-ne1 g c =
    answered _ (Err refusal.Syntax) _ _ _ _ _ (report_refused _ c.args.report c.requires.named (λ one. c.if-len-ne1.true (c.len.ensures ∙ one)))
    (record { text = _; answer = (refl, refl); grew = c.build_refused.ensures }) _

pub returns : goal.returns
returns g c =
    answered_by _ (Ok (command_of_report c.args.report)) _ _ _ _ _ _ _ (report_named _ c.args.report c.requires.named (sym c.len.ensures ∙ c.if-len-ne1.false))
    (report_answers (fields_of c.args.row.now) c.args.report (store_in c.args.register.now)) c.write_report.ensures
