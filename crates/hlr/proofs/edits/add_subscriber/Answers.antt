use Rattle.hlr.proofs.Common.{home_of_all, still_home}
use Rattle.hlr.proofs.edits.add_subscriber.Goals as goal

pub add_subscriber-requires : goal.add_subscriber-requires
add_subscriber-requires c = home_of_all _ c.args.register.now c.requires

pub returns-clause-home : goal.returns-clause-home
returns-clause-home c = still_home _ _ c.add_subscriber.ensures.homes c.requires
