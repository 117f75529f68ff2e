use Rattle.hlr_core.proofs.Common.{with_outs}
use Rattle.hlr_core.proofs.LaterLemmas.{bearer_later}
use Rattle.hlr_core.proofs.register.Register.find.Goals as goal

pub returns-clause-while_out : goal.returns-clause-while_out
returns-clause-while_out c = λ ks later.
    rw (bearer_later c.args.self.now.owners (with_outs c.args.self.now.owners ks) later c.args.sub_nbr, ← c.bearer.ensures.value) c.ok_or.ensures.value
