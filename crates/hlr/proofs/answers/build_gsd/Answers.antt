use Rattle.hlr.proofs.answers.build_gsd.Goals as goal

pub returns-in-Ok : goal.returns-in-Ok
returns-in-Ok c = record { text = _; answer = c.in-Ok.ensures.found; grew = c.build_subscriber.ensures }

pub returns-in-Err : goal.returns-in-Err
returns-in-Err c = record { text = _; answer = c.in-Err.ensures.refused; grew = c.build_refused.ensures }
