use Rattle.hlr_c.proofs.Common.{◌∙◌, sym}
use Rattle.tatp_actions.specs.declared.action.Action.TheVariants.{InsertForwarding}
use Rattle.hlr_c.proofs.PartLemmas.{asked_edit}
use Rattle.hlr_c.proofs.part_changes.insert_forwarding.Goals as goal

pub returns-in-Ok : goal.returns-in-Ok
returns-in-Ok c =
    rw (sym c.try_new.ensures ∙ c.in-Ok.is) (
    asked_edit
    (InsertForwarding (record { s_id = c.args.s_id; sf_type = c.args.sf_type; start_time = c.args.start_time; end_time = c.args.end_time; numberx = c.in-Ok.numberx }))
    _ c.args.part.now c.edit.result c.edit.new.part c.edit.ensures.rules c.insertion.ensures c.edit.ensures.edit)
