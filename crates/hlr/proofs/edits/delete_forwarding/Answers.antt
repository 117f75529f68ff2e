use Rattle.hlr_core.specs.declared.event.Event.TheVariants as event
use Rattle.hlr.proofs.Common.{home_to_all, still_home}
use Rattle.hlr.proofs.edits.delete_forwarding.Goals as goal

pub delete_forwarding-requires : goal.delete_forwarding-requires
delete_forwarding-requires c = let f = c.in_ok-sub_nbr in home_to_all (event.DeleteForwarding f.sub_nbr f.sf_type f.start_time) c.args.register.now c.requires

pub returns-clause-home : goal.returns-clause-home
returns-clause-home c = still_home _ _ c.delete_forwarding.ensures.homes c.requires
