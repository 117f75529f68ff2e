use Rattle.mr_subtree.proofs.Common.{rules, arith, ◌∙◌, length-set}
use Rattle.mr_subtree.proofs.DescentLemmas.{moved}
use Rattle.mr_subtree.proofs.many.next_nodes.Goals as goal

pub loop-place-init : goal.loop-place-init
loop-place-init g c = (search rules, λ rows way. way)

pub listed : goal.listed
listed g c = omega (arith, c.requires, c.loop-place-test.true, c.loop-place.invariant.0)

pub loop-place-preserved : goal.loop-place-preserved
loop-place-preserved g c = (
  length-set _ _ _ ∙ c.loop-place.invariant.0,
  λ rows way. moved rows c.args.keys.now c.loop-place.nodes c.loop-place.place c.index-nodes-place.result c.towards.result (c.loop-place.invariant.1 rows way) c.loop-place-test.true c.towards.ensures.same,
)

pub returns : goal.returns
returns g c = c.loop-place.invariant.1
