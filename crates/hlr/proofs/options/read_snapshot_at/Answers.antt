use Rattle.hlr.proofs.Common.{refl}
use Rattle.hlr.proofs.OptionFacts.{spelled, read_number}
use Rattle.hlr.proofs.options.read_snapshot_at.Goals as goal

pub returns : goal.returns
returns c = spelled c.args.matches.now _ _ c.get_one.result refl c.get_one.ensures.none (λ t is. read_number 32 t _ (c.get_one.ensures.value t is))
