use Rattle.tatp_actions.specs.declared.action.Action.TheVariants.{UpdateLocation}
use Rattle.hlr_c.proofs.PartLemmas.{asked_edit}
use Rattle.hlr_c.proofs.part_changes.update_location.Goals as goal

pub returns : goal.returns
returns c = asked_edit (UpdateLocation c.args.s_id c.args.vlr_location) _ c.args.part.now c.edit.result c.edit.new.part c.edit.ensures.rules c.location_update.ensures c.edit.ensures.edit
