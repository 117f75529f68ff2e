use Rattle.hlr.proofs.Common.{home_of_all}
use Rattle.hlr.proofs.answers.find_numbers.Goals as goal

pub destinations-requires : goal.destinations-requires
destinations-requires c = home_of_all _ c.args.register.now c.requires
