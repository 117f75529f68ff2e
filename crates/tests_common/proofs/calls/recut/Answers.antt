use Rattle.hlr_owners.proofs.HomeLemmas.{cut_home_of_all}
use Rattle.tests_common.proofs.calls.recut.Goals as goal

pub recut_to-requires : goal.recut_to-requires
recut_to-requires c = cut_home_of_all c.args.bounds.now c.args.register.now (c.all_at_home.ensures.0 c.if-all_at_home.true)
