use Rattle.hlr.proofs.Common.{home_of_all, still_home}
use Rattle.hlr.proofs.edits.add_facility.Goals as goal

pub add_facility-requires : goal.add_facility-requires
add_facility-requires c = home_of_all _ c.args.register.now c.requires

pub returns-clause-home : goal.returns-clause-home
returns-clause-home c = still_home _ _ c.add_facility.ensures.homes c.requires
