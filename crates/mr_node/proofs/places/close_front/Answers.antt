use Rattle.mr_node.proofs.Common.{arith}
use Rattle.mr_node.proofs.FrontLemmas.{gap_closing}
use Rattle.mr_node.proofs.places.close_front.Goals as goal

pub loop-place-preserved : goal.loop-place-preserved
loop-place-preserved g c =
    let kept = c.loop-place.invariant in
    let step = gap_closing c.args.count c.loop-place.place c.index-places-place.result c.take.result c.take.new.dest c.loop-place.places c.args.places.now kept.0 (omega (arith, c.loop-place-test.true, kept.1)) kept.1 kept.2 kept.3 c.take.ensures.value in
    (omega (arith, kept.0), step.0, step.1, step.2)
