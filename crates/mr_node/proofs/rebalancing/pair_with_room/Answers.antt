use Rattle.mr_node.proofs.Common.{arith, ◌-◌}
use Rattle.mr_node.proofs.RebalanceLemmas.{room_before, room_behind}
use Rattle.mr_node.proofs.rebalancing.pair_with_room.Goals as goal

pub returns-then-child_width-le-SHARED_FROM : goal.returns-then-child_width-le-SHARED_FROM
returns-then-child_width-le-SHARED_FROM g c =
    room_behind c.args.place c.child_width.result c.args.inner.now c.requires.inner c.if-place-inner.true c.child_width.ensures c.requires.full (omega (arith, c.if-child_width-le-SHARED_FROM.true))

pub returns-then-child_width-le-SHARED_FROM-2 : goal.returns-then-child_width-le-SHARED_FROM-2
returns-then-child_width-le-SHARED_FROM-2 g c =
    room_before c.args.place (c.args.place - 1) c.child_width-then-place-gt0.result c.args.inner.now c.requires.inner (omega (arith, c.if-place-gt0.true)) c.requires.within c.child_width-then-place-gt0.ensures c.requires.full (omega (arith, c.if-child_width-le-SHARED_FROM-2.true))
