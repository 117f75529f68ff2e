use Rattle.hlr_core.proofs.Common.{refl, between_ok, LAST_SUBSCRIBER, Bor, SubscriberRow}
use Rattle.tatp_actions.specs.declared.action.Action.TheVariants as action
use Rattle.tatp_actions.specs.declared.action.RowReply.TheVariants as row_reply
use Rattle.hlr_core.specs.declared.event.Event.TheVariants as event
use Rattle.hlr_core.specs.declared.event.Reply.TheVariants as reply
use Rattle.hlr_core.proofs.LentLemmas.{read_while_out, read_own}
use Rattle.hlr_core.proofs.register.Register.lend_subscriber.Goals as goal

pub returns : goal.returns
returns c =
    let same = (between_ok 1 LAST_SUBSCRIBER c.args.s_id c.in_ok-s_id.s_id c.in_ok-s_id.ensures).0 in
    let right = read_while_out (action.SubscriberData c.in_ok-s_id.s_id) c.self.inside.owners refl (λ (row : Bor SubscriberRow). row_reply.Row row.now) c.lend_subscriber.result c.lend_subscriber.ensures.while_out in
    let own = read_own (event.SubscriberData c.in_ok-s_id.s_id) c.self.inside.owners (λ (row : Bor SubscriberRow). reply.Rows (row_reply.Row row.now)) c.lend_subscriber.result right in
    rw (← same, ← c.self.view_is) (record { row = own.0; refused = own.1; while_out = right })
