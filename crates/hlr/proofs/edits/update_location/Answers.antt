use Rattle.hlr_core.specs.declared.event.Event.TheVariants as event
use Rattle.hlr.proofs.Common.{home_to_all, still_home}
use Rattle.hlr.proofs.edits.update_location.Goals as goal

pub update_location-requires : goal.update_location-requires
update_location-requires c = let f = c.in_ok-sub_nbr in home_to_all (event.UpdateLocation f.sub_nbr f.vlr_location) c.args.register.now c.requires

pub returns-clause-home : goal.returns-clause-home
returns-clause-home c = still_home _ _ c.update_location.ensures.homes c.requires
