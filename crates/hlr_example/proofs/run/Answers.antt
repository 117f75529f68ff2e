use Rattle.hlr_owners.proofs.HomeLemmas.{part_home_of_all}
use Rattle.hlr_core.proofs.HomeLemmas.{still_home}
use Rattle.hlr_example.proofs.run.Goals as goal

pub apply-reply-requires : goal.apply-reply-requires
apply-reply-requires g c = part_home_of_all 0 c.in_ok-register.register c.in_ok-register.ensures

pub show-requires-2 : goal.show-requires-2
show-requires-2 g c = still_home _ _ c.apply-reply.ensures.homes c.in_ok-register.ensures

pub owners_work-requires-after_bounds : goal.owners_work-requires-after_bounds
owners_work-requires-after_bounds g c κs within = still_home _ _ c.apply-reply.ensures.homes c.in_ok-register.ensures
