use Rattle.hlr_core.proofs.Common.{◌≡◌, refl, err_from_is_err_and, store_in}
use Rattle.tatp_rows.specs.declared.refusal.Refusal.TheVariants as refusal
use Rattle.tatp_actions.specs.declared.action.Action.TheVariants as action
use Rattle.tatp_actions.specs.declared.action.RowReply.TheVariants as row_reply
use Rattle.hlr_core.specs.declared.event.Event.TheVariants as event
use Rattle.hlr_core.specs.declared.event.Reply.TheVariants as reply
use Rattle.hlr_core.proofs.WhileOutLemmas.{moving_while_out, exists_while_out, unadded_while_out, added_while_out, own_step}
use Rattle.hlr_core.proofs.HomeLemmas.{homes_edited, homes_kept}
use Rattle.hlr_core.proofs.RegisterLemmas.{not_done, at_home, added_registered, undone_registered, undone_same, outcome_of_answer}
use Rattle.hlr_core.proofs.register.Register.add_subscriber.Goals as goal

pub returns-in_err-number_in : goal.returns-in_err-number_in
returns-in_err-number_in c =
    let p = err_from_is_err_and c.from_residual.result c.from_residual.ensures.1 in
    let moving = c.in_err-number_in.ensures.moving in
    let why : c.in_err-number_in.field-0.0 ≡ refusal.Moving = let is = moving.0 in cc in
    let right = moving_while_out (action.AddSubscriber c.args.row) c.self.inside.owners (rw c.s_id-s_id.ensures.value at moving.1) in
    rw (p.1, p.2, why, ← c.self.view_is) (record {
      step = own_step (event.AddSubscriber c.args.row) c.self.inside.owners c.self.inside.owners (reply.Refused refusal.Moving) refl right;
      homes = homes_kept c.self.inside.owners;
      while_out = right;
    })

pub returns-then-is_some : goal.returns-then-is_some
returns-then-is_some c =
    let here = at_home _ c.args.row (store_in c.self.inside.owners) _ _ c.s_id-s_id.ensures.value c.in_ok-number_in.ensures.home c.in_ok-number_in.ensures.number c.if-is_some.ensures in
    let right = exists_while_out c.self.inside.owners c.args.row here in
    rw (← c.self.view_is) (record {
      step = own_step (event.AddSubscriber c.args.row) c.self.inside.owners c.self.inside.owners (reply.Refused refusal.Exists) refl right;
      homes = homes_kept c.self.inside.owners;
      while_out = right;
    })

pub returns-in_err-add : goal.returns-in_err-add
returns-in_err-add c =
    let p = err_from_is_err_and c.from_residual-in_err-add.result c.from_residual-in_err-add.ensures.1 in
    let here = at_home _ c.args.row (store_in c.self.inside.owners) _ _ c.s_id-s_id.ensures.value c.in_ok-number_in.ensures.home c.in_ok-number_in.ensures.number c.if-is_some.ensures in
    let right = unadded_while_out c.self.inside.owners c.args.row c.rules.ensures.ruled c.self.inside.index c.self.invariant here c.add.new.self c.in_err-add.field-0.0 (rw c.sub_nbr-number.ensures at c.in_err-add.ensures.added) in
    rw (p.1, p.2, ← c.self.view_is) (record {
      step = own_step (event.AddSubscriber c.args.row) c.self.inside.owners c.self.inside.owners (reply.Refused c.in_err-add.field-0.0) refl right;
      homes = homes_kept c.self.inside.owners;
      while_out = right;
    })

pub invariant_of-self-in-Ok : goal.invariant_of-self-in-Ok
invariant_of-self-in-Ok c =
    let here = at_home _ c.args.row (store_in c.self.inside.owners) _ _ c.s_id-s_id.ensures.value c.in_ok-number_in.ensures.home c.in_ok-number_in.ensures.number c.if-is_some.ensures in
    let added = rw (c.sub_nbr-number.ensures, c.s_id-s_id.ensures.value) at c.in_ok-add.ensures.added in
    added_registered c.args.row _ _ _ _ c.self.invariant c.in-Ok.ensures.rows here.there added.0 added.1 (outcome_of_answer _ _ _ _ _ here.home c.in-Ok.ensures.answer)

pub invariant_of-self-in-Err : goal.invariant_of-self-in-Err
invariant_of-self-in-Err c =
    let here = at_home _ c.args.row (store_in c.self.inside.owners) _ _ c.s_id-s_id.ensures.value c.in_ok-number_in.ensures.home c.in_ok-number_in.ensures.number c.if-is_some.ensures in
    let added = rw (c.sub_nbr-number.ensures, c.s_id-s_id.ensures.value) at c.in_ok-add.ensures.added in
    let same = undone_same c.args.row _ _ _ here.there (not_done c.in-Err.why) (outcome_of_answer _ _ _ _ _ here.home c.in-Err.ensures.answer) in
    undone_registered c.args.row _ _ (row_reply.Refused c.in-Err.why) _ _ _ c.self.invariant added.0 added.1 (rw c.sub_nbr-number.ensures at c.remove.ensures.pairs) same

pub returns-in-Ok : goal.returns-in-Ok
returns-in-Ok c =
    let here = at_home _ c.args.row (store_in c.self.inside.owners) _ _ c.s_id-s_id.ensures.value c.in_ok-number_in.ensures.home c.in_ok-number_in.ensures.number c.if-is_some.ensures in
    let added = rw (c.sub_nbr-number.ensures, c.s_id-s_id.ensures.value) at c.in_ok-add.ensures.added in
    let right = added_while_out c.self.inside.owners c.args.row c.rules.ensures.ruled c.self.inside.index c.self.invariant here c.edit_in.new.self _ (reply.Rows row_reply.Done) c.s_id-s_id.ensures.in_range added.0 c.in-Ok.ensures.while_out refl in
    rw (← c.self.view_is) (record {
      step = own_step (event.AddSubscriber c.args.row) c.self.inside.owners c.edit_in.new.self (reply.Rows row_reply.Done) c.in-Ok.ensures.outs right;
      homes = homes_edited c.self.inside.owners c.edit_in.new.self c.in-Ok.ensures.homes c.in-Ok.ensures.outs c.in-Ok.ensures.same;
      while_out = right;
    })

pub returns-in-Err : goal.returns-in-Err
returns-in-Err c =
    let here = at_home _ c.args.row (store_in c.self.inside.owners) _ _ c.s_id-s_id.ensures.value c.in_ok-number_in.ensures.home c.in_ok-number_in.ensures.number c.if-is_some.ensures in
    let added = rw (c.sub_nbr-number.ensures, c.s_id-s_id.ensures.value) at c.in_ok-add.ensures.added in
    let right = added_while_out c.self.inside.owners c.args.row c.rules.ensures.ruled c.self.inside.index c.self.invariant here c.edit_in.new.self _ (reply.Refused c.in-Err.why) c.s_id-s_id.ensures.in_range added.0 c.in-Err.ensures.while_out refl in
    rw (← c.self.view_is) (record {
      step = own_step (event.AddSubscriber c.args.row) c.self.inside.owners c.edit_in.new.self (reply.Refused c.in-Err.why) c.in-Err.ensures.outs right;
      homes = homes_edited c.self.inside.owners c.edit_in.new.self c.in-Err.ensures.homes c.in-Err.ensures.outs c.in-Err.ensures.same;
      while_out = right;
    })
