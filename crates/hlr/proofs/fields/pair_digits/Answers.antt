use Rattle.hlr.proofs.Common.{arith, fill_by_all}
use Rattle.hlr.specs.Fields.{bytes_of}
use Rattle.hlr.proofs.fields.pair_digits.Goals as goal

pub returns : goal.returns
unfolding bytes_of
returns c = fill_by_all _ _ 10 0 c.loop-i.invariant.size (λ k below. c.loop-i.invariant.bytes k (omega arith))
