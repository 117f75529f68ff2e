use Rattle.hlr_core.proofs.Common.{recut_answer, recut_stays}
use Rattle.hlr_core.proofs.HomeLemmas.{homes_moved}
use Rattle.hlr_core.proofs.WhileOutLemmas.{recut_while_out}
use Rattle.hlr_core.proofs.register.Register.recut_to.Goals as goal

pub invariant_of-self : goal.invariant_of-self
invariant_of-self c = rw (recut_stays (recut_answer c.self.inside.owners.regions c.args.bounds.now) c.args.bounds.now _ _ _ c.recut_to.ensures.recut) c.self.invariant

pub returns : goal.returns
returns c = rw (← c.self.view_is) (record {
  recut = c.recut_to.ensures.recut;
  homes = homes_moved c.self.inside.owners c.recut_to.new.self c.recut_to.ensures.homes c.recut_to.ensures.outs c.recut_to.ensures.same;
  while_out = recut_while_out c.self.inside.owners c.recut_to.new.self c.recut_to.ensures.while_out c.args.bounds.now c.recut_to.result c.recut_to.ensures.recut;
})
