use Rattle.hlr_c.proofs.Common.{◌∙◌, ap, sym, DeleteForwarding, asks}
use Rattle.hlr_c.proofs.AnswerLemmas.{away_code, refused_code}
use Rattle.hlr_c.proofs.changes.delete_forwarding.Goals as goal

pub returns-in-Err : goal.returns-in-Err
returns-in-Err c = refused_code _ c.in-Err.why c.args.register.now c.code.result (ap (asks (λ number. DeleteForwarding number c.args.sf_type c.args.start_time)) (sym c.try_new.ensures ∙ c.in-Err.is)) c.code.ensures

pub returns-then-not-is_bearer_home : goal.returns-then-not-is_bearer_home
returns-then-not-is_bearer_home c = rw (sym c.try_new.ensures ∙ c.in-Ok.is) (away_code (DeleteForwarding c.in-Ok.sub_nbr c.args.sf_type c.args.start_time) c.args.register.now c.code_away.result c.code_away.ensures)
