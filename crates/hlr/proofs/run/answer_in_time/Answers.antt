use Rattle.hlr.proofs.Common.{◌∙◌, sym}
use Rattle.hlr.proofs.RunFacts.{answered_handed, answered_on}
use Rattle.hlr.proofs.run.answer_in_time.Goals as goal

pub returns-then-is_err-clause-text : goal.returns-then-is_err-clause-text
returns-then-is_err-clause-text g c = answered_on _ _ _ _ _ _ c.answer.result _ (sym c.is_err.ensures.value ∙ c.if-is_err.true) c.answer.ensures.text

pub returns-then-has_record-clause-text : goal.returns-then-has_record-clause-text
returns-then-has_record-clause-text g c = answered_handed _ _ _ _ _ _ _ _ c.answer.result c.make_room.result (sym c.is_err.ensures.value ∙ c.if-is_err.false) c.answer.ensures.text c.make_room.ensures.text

pub returns-clause-text : goal.returns-clause-text
returns-clause-text g c = answered_handed _ _ _ _ _ _ _ _ c.answer.result c.flush_line.result (sym c.is_err.ensures.value ∙ c.if-is_err.false) c.answer.ensures.text c.flush_line.ensures.text
