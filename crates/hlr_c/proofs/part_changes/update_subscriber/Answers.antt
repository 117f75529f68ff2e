use Rattle.hlr_c.proofs.Common.{UpdateSubscriber}
use Rattle.hlr_c.proofs.PartLemmas.{asked_edit}
use Rattle.hlr_c.proofs.part_changes.update_subscriber.Goals as goal

pub returns : goal.returns
returns c = asked_edit (UpdateSubscriber c.args.s_id c.args.sf_type c.args.bit_1 c.args.data_a) _ c.args.part.now c.edit.result c.edit.new.part c.edit.ensures.rules c.update_subscriber.ensures.asked c.edit.ensures.edit
