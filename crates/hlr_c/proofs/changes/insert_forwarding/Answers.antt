use Rattle.hlr_c.proofs.Common.{◌∙◌, ap, inr, refl, sym, InsertForwarding, asks}
use Rattle.hlr_core.specs.declared.event.Reply.TheVariants as reply
use Rattle.hlr_c.proofs.AnswerLemmas.{refused_code}
use Rattle.hlr_c.proofs.changes.insert_forwarding.Goals as goal

pub returns-in-Err : goal.returns-in-Err
returns-in-Err c =
    rw (sym c.try_new.ensures ∙ c.in-Err.is) (inr ((λ waits. waits), reply.Refused c.in-Err.why, (refl, refl), c.code.ensures))

pub returns-in-Err-try_new : goal.returns-in-Err-try_new
returns-in-Err-try_new c =
    rw (sym c.try_new.ensures ∙ c.in-Ok.is) (
    refused_code _ c.in-Err-try_new.why c.args.register.now c.code-in-Err-try_new.result
    (ap (asks (InsertForwarding c.in-Ok.sub_nbr c.args.sf_type c.args.start_time c.args.end_time)) (sym c.try_new-2.ensures ∙ c.in-Err-try_new.is)) c.code-in-Err-try_new.ensures)
