use Rattle.hlr_c.proofs.Common.{SetActive}
use Rattle.hlr_c.proofs.PartLemmas.{asked_edit}
use Rattle.hlr_c.proofs.part_changes.set_active.Goals as goal

pub returns : goal.returns
returns c = asked_edit (SetActive c.args.s_id c.args.sf_type c.args.is_active) _ c.args.part.now c.edit.result c.edit.new.part c.edit.ensures.rules c.set_active.ensures.asked c.edit.ensures.edit
