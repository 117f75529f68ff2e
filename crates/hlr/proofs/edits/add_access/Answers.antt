use Rattle.hlr.proofs.Common.{home_of_all, still_home}
use Rattle.hlr.proofs.edits.add_access.Goals as goal

pub add_access-requires : goal.add_access-requires
add_access-requires c = home_of_all _ c.args.register.now c.requires

pub returns-clause-home : goal.returns-clause-home
returns-clause-home c = still_home _ _ c.add_access.ensures.homes c.requires
