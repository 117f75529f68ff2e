use Rattle.hlr.proofs.Common.{home_of_all}
use Rattle.hlr.proofs.answers.find_access.Goals as goal

pub lend_access-requires : goal.lend_access-requires
lend_access-requires c = home_of_all _ c.args.register.now c.requires
