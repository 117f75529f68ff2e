use Rattle.hlr.proofs.OwedFacts.{answered_next}
use Rattle.hlr.proofs.owed.report.Goals as goal

pub returns : goal.returns
returns g c = λ rows start old under.
    answered_next rows _ start _ c.write_owed.new.engine old _ _ _ c.answer_report.result (c.in_ok-write_owed.ensures.text rows start old under)
    (rw c.register.ensures.value at c.answer_report.ensures) c.write_owed.ensures.rest
