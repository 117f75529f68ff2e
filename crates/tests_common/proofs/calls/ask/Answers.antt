use Rattle.hlr_core.proofs.HomeLemmas.{home_to_all}
use Rattle.tests_common.proofs.calls.ask.Goals as goal

pub apply-requires : goal.apply-requires
apply-requires c = home_to_all c.args.event c.args.register.now (c.all_at_home.ensures.0 c.if-all_at_home.true)
