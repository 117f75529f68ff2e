use Rattle.hlr_core.proofs.Common.{edited_reply, refl}
use Rattle.hlr_core.specs.declared.event.Event.TheVariants as event
use Rattle.hlr_core.proofs.WhileOutLemmas.{step_while_out}
use Rattle.tatp_actions.specs.declared.action.Action.TheVariants as action
use Rattle.hlr_core.proofs.HomeLemmas.{home_of_bearer}
use Rattle.hlr_core.proofs.register.Register.update_location.Goals as goal

pub edit-requires-clause-home : goal.edit-requires-clause-home
edit-requires-clause-home c =
    home_of_bearer _ _ (λ s_id. action.UpdateLocation s_id c.args.vlr_location) c.bearer-bearer_id.result _ c.update_location.result (λ s_id. refl)
    (rw (c.bearer-bearer_id.ensures.value) c.requires) c.update_location.ensures.asked

pub returns : goal.returns
returns c = record {
  step = rw (← c.bearer-bearer_id.ensures.value) (c.edit.ensures.step _ _ c.update_location.ensures.asked);
  homes = c.edit.ensures.homes;
  while_out = step_while_out (event.UpdateLocation c.args.sub_nbr c.args.vlr_location) c.args.self.now c.edit.new.self (edited_reply c.edit.result) refl (rw (← c.bearer-bearer_id.ensures.value) (c.edit.ensures.while_out _ _ c.update_location.ensures.asked));
}
