use Rattle.hlr_c.proofs.Common.{Err, ap, inr, refl}
use Rattle.hlr_c.proofs.parts.recut.Goals as goal

pub returns-in-Err : goal.returns-in-Err
returns-in-Err c = rw (rw c.in-Err.is at c.bounds_in.ensures.err) (inr ((λ waits. waits), Err c.in-Err.why, (refl, refl), ap (λ n. (n, c.args.moved.now)) c.code.ensures))
