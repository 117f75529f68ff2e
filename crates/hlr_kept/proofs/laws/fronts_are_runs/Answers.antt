use Rattle.hlr_kept.proofs.RunLemmas.{some_orders}
use Rattle.hlr_kept.proofs.laws.fronts_are_runs.Goals as goal

pub returns : goal.returns
returns c = some_orders
