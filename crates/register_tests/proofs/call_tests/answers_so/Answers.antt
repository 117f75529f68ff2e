use Rattle.hlr_core.proofs.HomeLemmas.{home_to_all}
use Rattle.register_tests.proofs.call_tests.answers_so.Goals as goal

pub lend_subscriber-requires : goal.lend_subscriber-requires
lend_subscriber-requires c =
    rw c.in-SubscriberData.is at (home_to_all c.args.event.now c.args.register.now (c.all_at_home.ensures.0 c.if-not-all_at_home.false))

pub lend_access-requires : goal.lend_access-requires
lend_access-requires c =
    rw c.in-AccessData.is at (home_to_all c.args.event.now c.args.register.now (c.all_at_home.ensures.0 c.if-not-all_at_home.false))

pub destinations-requires : goal.destinations-requires
destinations-requires c =
    rw c.in-NewDestination.is at (home_to_all c.args.event.now c.args.register.now (c.all_at_home.ensures.0 c.if-not-all_at_home.false))
