use Rattle.hlr_core.proofs.Common.{cut_home_of_all}
use Rattle.hlr_core.proofs.HomeLemmas.{desk_after, desk_kept, home_after, home_to_all, still_home}
use Rattle.hlr_core.proofs.register.Register.carry_out.Goals as goal

pub apply-requires : goal.apply-requires
apply-requires c = home_to_all c.in-Event.event c.args.self.now c.requires

pub recut_to-requires : goal.recut_to-requires
recut_to-requires c = cut_home_of_all c.as_slice.result.now c.args.self.now c.requires

pub returns-in-Event-clause-home : goal.returns-in-Event-clause-home
returns-in-Event-clause-home c = home_after c.in-Event.event c.apply.result c.args.self.now c.apply.new.self c.apply.ensures.homes c.requires

pub returns-in-Recut-clause-home : goal.returns-in-Recut-clause-home
returns-in-Recut-clause-home c = still_home _ _ c.recut_to.ensures.homes c.requires

pub returns-in-Event-clause-spare : goal.returns-in-Event-clause-spare
returns-in-Event-clause-spare c = desk_after c.in-Event.event c.apply.result c.args.self.now c.apply.new.self c.apply.ensures.homes

pub returns-in-Recut-clause-spare : goal.returns-in-Recut-clause-spare
returns-in-Recut-clause-spare c = desk_kept _ _ c.recut_to.ensures.homes
