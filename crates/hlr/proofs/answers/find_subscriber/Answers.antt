use Rattle.hlr.proofs.Common.{home_of_all}
use Rattle.hlr.proofs.answers.find_subscriber.Goals as goal

pub lend_subscriber-requires : goal.lend_subscriber-requires
lend_subscriber-requires c = home_of_all _ c.args.register.now c.requires
