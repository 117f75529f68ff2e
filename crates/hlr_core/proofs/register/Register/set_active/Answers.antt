use Rattle.tatp_actions.specs.declared.action.Action.TheVariants as action
use Rattle.hlr_core.proofs.HomeLemmas.{home_of_asked}
use Rattle.hlr_core.proofs.register.Register.set_active.Goals as goal

pub edit-requires-clause-home : goal.edit-requires-clause-home
edit-requires-clause-home c = home_of_asked _ _ (action.SetActive c.args.s_id c.args.sf_type c.args.is_active) _ c.set_active.result c.requires c.set_active.ensures.asked

pub returns : goal.returns
returns c = record {
  step = c.edit.ensures.step _ _ c.set_active.ensures.asked;
  homes = c.edit.ensures.homes;
  while_out = c.edit.ensures.while_out _ _ c.set_active.ensures.asked;
}
