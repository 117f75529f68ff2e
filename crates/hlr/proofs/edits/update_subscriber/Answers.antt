use Rattle.hlr.proofs.Common.{home_of_all, still_home}
use Rattle.hlr.proofs.edits.update_subscriber.Goals as goal

pub update_subscriber-requires : goal.update_subscriber-requires
update_subscriber-requires c = home_of_all _ c.args.register.now c.requires

pub returns-clause-home : goal.returns-clause-home
returns-clause-home c = still_home _ _ c.update_subscriber.ensures.homes c.requires
