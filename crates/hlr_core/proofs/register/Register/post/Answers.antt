use Rattle.hlr_core.proofs.WhileOutLemmas.{posted_while_out}
use Rattle.hlr_core.proofs.HomeLemmas.{homes_edited}
use Rattle.hlr_core.proofs.RegisterLemmas.{posted_step}
use Rattle.hlr_core.proofs.register.Register.post.Goals as goal

pub returns : goal.returns
returns c = rw (← c.self.view_is, c.of_posting.ensures) (record {
  step = posted_step _ _ _ _ _ c.post.result c.post.ensures.posted;
  homes = homes_edited c.self.inside.owners c.post.new.self c.post.ensures.homes c.post.ensures.outs c.post.ensures.same;
  while_out = posted_while_out c.self.inside.owners c.post.new.self c.args.part c.args.limit c.post.result c.post.ensures.while_out;
})
