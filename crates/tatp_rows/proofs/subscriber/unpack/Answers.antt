use Rattle.tatp_rows.proofs.Common.{refl}
use Rattle.tatp_rows.proofs.PackLemmas.{unpack_none, unpack_more, unpack_all}
use Rattle.tatp_rows.proofs.subscriber.unpack.Goals as goal

pub loop-i-init : goal.loop-i-init
loop-i-init c = unpack_none _ _ _ _ refl

pub loop-i-preserved : goal.loop-i-preserved
loop-i-preserved c = unpack_more _ _ _ _ _ _ c.loop-i.invariant c.loop-i-test.true

pub returns : goal.returns
returns c = unpack_all _ _ _ _ _ _ c.loop-i.invariant c.loop-i-test.false
