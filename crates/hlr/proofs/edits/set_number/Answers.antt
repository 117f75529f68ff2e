use Rattle.hlr.proofs.Common.{home_of_all, still_home}
use Rattle.hlr.proofs.edits.set_number.Goals as goal

pub set_number-requires : goal.set_number-requires
set_number-requires c = home_of_all _ c.args.register.now c.requires

pub returns-clause-home : goal.returns-clause-home
returns-clause-home c = still_home _ _ c.set_number.ensures.homes c.requires
