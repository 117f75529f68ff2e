use Rattle.hlr.proofs.Common.{home_of_all, still_home}
use Rattle.hlr.proofs.edits.set_active.Goals as goal

pub set_active-requires : goal.set_active-requires
set_active-requires c = home_of_all _ c.args.register.now c.requires

pub returns-clause-home : goal.returns-clause-home
returns-clause-home c = still_home _ _ c.set_active.ensures.homes c.requires
