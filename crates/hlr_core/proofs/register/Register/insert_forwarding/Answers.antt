use Rattle.hlr_core.proofs.Common.{edited_reply, refl}
use Rattle.hlr_core.specs.declared.event.Event.TheVariants as event
use Rattle.hlr_core.proofs.WhileOutLemmas.{step_while_out}
use Rattle.tatp_actions.specs.declared.action.Action.TheVariants as action
use Rattle.hlr_core.proofs.HomeLemmas.{home_of_bearer}
use Rattle.hlr_core.proofs.register.Register.insert_forwarding.Goals as goal

pub edit-requires-clause-home : goal.edit-requires-clause-home
edit-requires-clause-home c =
    home_of_bearer _ _ (λ s_id. action.InsertForwarding (record { s_id = s_id; sf_type = c.args.sf_type; start_time = c.args.start_time; end_time = c.args.end_time; numberx = c.args.numberx })) c.bearer-bearer_id.result _ c.insert_forwarding.result (λ s_id. refl)
    (rw (c.bearer-bearer_id.ensures.value) c.requires) c.insert_forwarding.ensures.asked

pub returns : goal.returns
returns c = record {
  step = rw (← c.bearer-bearer_id.ensures.value) (c.edit.ensures.step _ _ c.insert_forwarding.ensures.asked);
  homes = c.edit.ensures.homes;
  while_out = step_while_out (event.InsertForwarding c.args.sub_nbr c.args.sf_type c.args.start_time c.args.end_time c.args.numberx) c.args.self.now c.edit.new.self (edited_reply c.edit.result) refl (rw (← c.bearer-bearer_id.ensures.value) (c.edit.ensures.while_out _ _ c.insert_forwarding.ensures.asked));
}
