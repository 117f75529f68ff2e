use Rattle.hlr.proofs.Common.{refl}
use Rattle.hlr.proofs.OptionFacts.{told, read_flag}
use Rattle.hlr.proofs.options.read_threads.Goals as goal

pub returns : goal.returns
returns c = told c.args.matches.now _ _ c.get_one.result refl c.get_one.ensures.none (λ t is. read_flag t _ (c.get_one.ensures.value t is))
