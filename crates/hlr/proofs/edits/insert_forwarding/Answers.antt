use Rattle.hlr_core.specs.declared.event.Event.TheVariants as event
use Rattle.hlr.proofs.Common.{home_to_all, still_home}
use Rattle.hlr.proofs.edits.insert_forwarding.Goals as goal

pub insert_forwarding-requires : goal.insert_forwarding-requires
insert_forwarding-requires c = let f = c.in_ok-sub_nbr in home_to_all (event.InsertForwarding f.sub_nbr f.sf_type f.start_time f.end_time f.numberx) c.args.register.now c.requires

pub returns-clause-home : goal.returns-clause-home
returns-clause-home c = still_home _ _ c.insert_forwarding.ensures.homes c.requires
