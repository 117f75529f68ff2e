use Rattle.tatp_actions.specs.declared.action.Action.TheVariants.{DeleteForwarding}
use Rattle.hlr_c.proofs.PartLemmas.{asked_edit}
use Rattle.hlr_c.proofs.part_changes.delete_forwarding.Goals as goal

pub returns : goal.returns
returns c = asked_edit (DeleteForwarding c.args.s_id c.args.sf_type c.args.start_time) _ c.args.part.now c.edit.result c.edit.new.part c.edit.ensures.rules c.deletion.ensures c.edit.ensures.edit
