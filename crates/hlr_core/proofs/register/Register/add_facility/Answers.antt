use Rattle.hlr_core.proofs.Common.{true, Some}
use Rattle.tatp_actions.specs.declared.action.Action.TheVariants as action
use Rattle.hlr_core.proofs.HomeLemmas.{home_of_asked}
use Rattle.hlr_core.proofs.register.Register.add_facility.Goals as goal

pub edit-requires-clause-home : goal.edit-requires-clause-home
edit-requires-clause-home c = home_of_asked _ true (action.AddFacility c.args.row) _ c.add_facility.result c.requires c.add_facility.ensures.asked

pub returns : goal.returns
returns c = record {
  step = c.edit.ensures.step true (Some (action.AddFacility c.args.row)) c.add_facility.ensures.asked;
  homes = c.edit.ensures.homes;
  while_out = c.edit.ensures.while_out true (Some (action.AddFacility c.args.row)) c.add_facility.ensures.asked;
}
