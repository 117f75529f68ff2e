use Rattle.hlr_core.proofs.Common.{w64, to_z-of_z}
use Rattle.hlr_core.proofs.WeightLemmas.{weighs_none, weighs_itself}
use Rattle.hlr_core.proofs.weights.weight_of.Goals as goal

pub returns-then-published-lt0 : goal.returns-then-published-lt0
returns-then-published-lt0 c =
    let below = rw (to_z-of_z w64 c.args.published c.ranges.published) at c.if-published-lt0.true in weighs_none _ below

pub returns : goal.returns
returns c =
    let above = rw (to_z-of_z w64 c.args.published c.ranges.published) at c.if-published-lt0.false in
    let size = rw (to_z-of_z w64 c.args.published c.ranges.published) at c.unsigned_abs.ensures.value in
    rw (c.min.ensures, size) (weighs_itself _ above)
