use Rattle.hlr_core.proofs.AtHomeLemmas.{same_at_home}
use Rattle.hlr_core.proofs.order.no_reply_but_moving.Goals as goal

pub returns : goal.returns
returns c = λ orders answers before after run. same_at_home orders answers before after run
