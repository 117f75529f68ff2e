use Rattle.hlr_core.proofs.Common.{refl, sym}
use Rattle.tatp_actions.specs.declared.action.Action.TheVariants as action
use Rattle.hlr_core.proofs.TaskLemmas.{access_acted, field_acted, held_fits}
use Rattle.hlr_core.proofs.task.read_access.Goals as goal

pub returns : goal.returns
returns c =
    access_acted c.args.s_id c.args.holding.now c.rules.ensures c.requires c.args.ai_type (sym c.if-not-is_between.ensures) c.lend_access.result c.access_reply.result c.lend_access.ensures
    (rw c.ok_or.ensures.value at c.access_reply.ensures)

pub returns-then-not-is_between : goal.returns-then-not-is_between
returns-then-not-is_between c =
    let rules = c.rules.ensures in
    field_acted (action.AccessData c.args.s_id c.args.ai_type) c.args.holding.now rules (rw (held_fits c.args.holding.now rules c.args.s_id c.requires, sym c.if-not-is_between.ensures) refl)
