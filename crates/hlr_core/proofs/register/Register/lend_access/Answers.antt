use Rattle.hlr_core.proofs.Common.{refl, between_ok, LAST_SUBSCRIBER, AccessInfoRow}
use Rattle.tatp_actions.specs.declared.action.Action.TheVariants as action
use Rattle.tatp_actions.specs.declared.action.RowReply.TheVariants as row_reply
use Rattle.hlr_core.specs.declared.event.Event.TheVariants as event
use Rattle.hlr_core.specs.declared.event.Reply.TheVariants as reply
use Rattle.hlr_core.proofs.LentLemmas.{read_while_out, read_own}
use Rattle.hlr_core.proofs.register.Register.lend_access.Goals as goal

pub returns : goal.returns
returns c =
    let s_id = (between_ok 1 LAST_SUBSCRIBER c.args.s_id c.in_ok-s_id.s_id c.in_ok-s_id.ensures).0 in
    let ai_type = (between_ok 1 4 c.args.ai_type c.in_ok-ai_type.ai_type c.in_ok-ai_type.ensures).0 in
    let told = λ (row : AccessInfoRow). row_reply.AccessRow row.data1 row.data2 row.data3 row.data4 in
    let right = read_while_out (action.AccessData c.in_ok-s_id.s_id c.in_ok-ai_type.ai_type) c.self.inside.owners refl told c.lend_access.result c.lend_access.ensures.while_out in
    let own = read_own (event.AccessData c.in_ok-s_id.s_id c.in_ok-ai_type.ai_type) c.self.inside.owners (λ (row : AccessInfoRow). reply.Rows (told row)) c.lend_access.result right in
    rw (← s_id, ← ai_type, ← c.self.view_is) (record { row = own.0; refused = own.1; while_out = right })
