use Rattle.std.proofs.Common.{refl}
use Rattle.tatp_actions.specs.declared.action.Action.TheVariants as action
use Rattle.hlr_core.proofs.BackLemmas.{back_worked}
use Rattle.register_tests.proofs.lent_tests.works.Goals as goal

pub returns : goal.returns
returns c = back_worked c.args.holding.now c.act.new.self c.post.new.self (action.UpdateLocation c.args.s_id 268435456) _ refl c.act.ensures.outcome c.act.ensures.range c.act.ensures.desk.0 c.post.ensures.part c.post.ensures.desk.0 c.post.ensures.desk.1
