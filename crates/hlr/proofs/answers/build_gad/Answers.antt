use Rattle.hlr.proofs.answers.build_gad.Goals as goal

pub returns-in-Ok : goal.returns-in-Ok
returns-in-Ok c = record { text = _; answer = c.in-Ok.ensures.found; grew = (rw (c.data1.ensures, c.data2.ensures, c.data3.ensures, c.data4.ensures) at c.build_access.ensures) }

pub returns-in-Err : goal.returns-in-Err
returns-in-Err c = record { text = _; answer = c.in-Err.ensures.refused; grew = c.build_refused.ensures }
