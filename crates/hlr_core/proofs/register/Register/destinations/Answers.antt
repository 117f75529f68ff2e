use Rattle.hlr_core.proofs.Common.{ℕ, ap, refl, ArrayVec}
use Rattle.tatp_actions.specs.declared.action.Action.TheVariants as action
use Rattle.tatp_actions.specs.declared.action.RowReply.TheVariants as row_reply
use Rattle.hlr_core.specs.declared.event.Event.TheVariants as event
use Rattle.hlr_core.specs.declared.event.Reply.TheVariants as reply
use Rattle.hlr_core.proofs.LentLemmas.{read_while_out, read_own}
use Rattle.hlr_core.proofs.register.Register.destinations.Goals as goal

pub returns : goal.returns
returns c =
    let call = c.in_ok-s_id in
    let told = call.ensures.ok.0 in
    let s_id = ap (λ (call : ℕ × ℕ × ℕ × ℕ). call.0) told in
    let sf_type = ap (λ (call : ℕ × ℕ × ℕ × ℕ). call.1) told in
    let start_time = ap (λ (call : ℕ × ℕ × ℕ × ℕ). call.2) told in
    let end_time = ap (λ (call : ℕ × ℕ × ℕ × ℕ). call.3) told in
    let right = read_while_out (action.NewDestination call.s_id call.sf_type call.start_time call.end_time) c.self.inside.owners refl row_reply.Numbers c.destinations.result c.destinations.ensures.while_out in
    let own = read_own (event.NewDestination call.s_id call.sf_type call.start_time call.end_time) c.self.inside.owners (λ (numbers : ArrayVec ℕ). reply.Rows (row_reply.Numbers numbers)) c.destinations.result right in
    rw (← s_id, ← sf_type, ← start_time, ← end_time, ← c.self.view_is) (record { numbers = own.0; refused = own.1; while_out = right })
