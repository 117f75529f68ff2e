use Rattle.tatp_actions.specs.declared.action.Action.TheVariants as action
use Rattle.hlr_core.proofs.HomeLemmas.{home_of_asked}
use Rattle.hlr_core.proofs.register.Register.update_subscriber.Goals as goal

pub edit-requires-clause-home : goal.edit-requires-clause-home
edit-requires-clause-home c = home_of_asked _ _ (action.UpdateSubscriber c.args.s_id c.args.sf_type c.args.bit_1 c.args.data_a) _ c.update_subscriber.result c.requires c.update_subscriber.ensures.asked

pub returns : goal.returns
returns c = record {
  step = c.edit.ensures.step _ _ c.update_subscriber.ensures.asked;
  homes = c.edit.ensures.homes;
  while_out = c.edit.ensures.while_out _ _ c.update_subscriber.ensures.asked;
}
