use Rattle.hlr_c.proofs.Common.{◌∙◌, ap, sym, AddSubscriber, asks}
use Rattle.hlr_c.proofs.AnswerLemmas.{away_code, refused_code}
use Rattle.hlr_c.proofs.changes.add_subscriber.Goals as goal

pub returns-in-Err : goal.returns-in-Err
returns-in-Err c = refused_code _ c.in-Err.why c.args.register.now c.code.result (ap (asks AddSubscriber) (sym c.subscriber_of.ensures ∙ c.in-Err.is)) c.code.ensures

pub returns-then-not-is_home_for : goal.returns-then-not-is_home_for
returns-then-not-is_home_for c = rw (sym c.subscriber_of.ensures ∙ c.in-Ok.is) (away_code (AddSubscriber c.in-Ok.row) c.args.register.now c.code_away.result c.code_away.ensures)
