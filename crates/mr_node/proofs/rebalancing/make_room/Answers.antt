use Rattle.mr_node.proofs.Common.{rules, arith, ◌+◌, ◌-◌, NodeChild, children_of}
use Rattle.mr_node.proofs.PlaceLemmas.{packed_some}
use Rattle.mr_node.proofs.ChildLemmas.{IsCutAt, child_at, cut_child}
use Rattle.mr_node.proofs.NodeLemmas.{children_rise, children_below}
use Rattle.mr_node.proofs.CutLemmas.{IsReadAs, room_found, same_alone, full_width, split_next, split_same, split_low, split_high}
use Rattle.mr_node.proofs.rebalancing.make_room.Goals.{After-share_or_split-low}
use Rattle.mr_node.proofs.rebalancing.make_room.Goals as goal

pub child_place-place-requires : goal.child_place-place-requires
child_place-place-requires g c =
    let b = c.args.inner.now in
    let whole = c.requires.inner in
    (search rules, (whole.some, (whole.entries, (children_rise b whole, children_below b whole))))

pub returns-then-child_width-lt32-clause-same : goal.returns-then-child_width-lt32-clause-same
returns-then-child_width-lt32-clause-same g c = same_alone c.args.inner.now c.requires.inner

pub returns-then-child_width-lt32-clause-place : goal.returns-then-child_width-lt32-clause-place
returns-then-child_width-lt32-clause-place g c = room_found c.args.key c.child_place-place.result c.child_width.result c.args.inner.now c.requires.inner c.child_place-place.ensures c.child_width.ensures c.if-child_width-lt32.true

pub returns-then-child_width-lt32-clause-made : goal.returns-then-child_width-lt32-clause-made
returns-then-child_width-lt32-clause-made g c = record { given = 0; each = omega arith; no_fewer = omega arith; no_more = omega arith }

pub share_or_split-low-requires : goal.share_or_split-low-requires
share_or_split-low-requires g c =
    let b = c.args.inner.now in
    (search rules, (search rules, (c.requires.inner, (c.requires.room, (c.child_place-place.ensures.within, (full_width c.args.key c.child_place-place.result c.child_width.result b c.requires.inner c.child_place-place.ensures c.child_width.ensures c.if-child_width-lt32.false, c.requires.stock))))))

-- the full child's cut, and where the second of the two stands
cut : (g : _) (c : After-share_or_split-low g) → (k : NodeChild g.row.V.Denot) × IsCutAt c.args.key (c.args.inner.now.height - 1) c.child_place-place.result (children_of c.args.inner.now) k
cut g c =
    let b = c.args.inner.now in
    let i = c.child_place-place.result in
    let some = packed_some b.len i b.children c.requires.inner.entries.packed c.child_place-place.ensures.within in
    (child_at b i some.0, cut_child c.args.key i b some.0 c.requires.inner c.child_place-place.ensures some.1)

next : (g : _) (c : After-share_or_split-low g) → IsReadAs (c.share_or_split-low.result + 1) c.share_or_split-low.new.inner c.share_or_split-low.ensures.split.2.high
next g c = split_next c.share_or_split-low.result c.share_or_split-low.ensures.split.0 c.child_place-place.result c.args.inner.now c.share_or_split-low.new.inner c.share_or_split-low.ensures.place c.child_place-place.ensures.within c.requires.inner c.share_or_split-low.ensures.split.2

pub returns-then-inner-low-clause-same : goal.returns-then-inner-low-clause-same
returns-then-inner-low-clause-same g c = split_same c.share_or_split-low.result c.share_or_split-low.ensures.split.0 c.args.inner.now c.share_or_split-low.new.inner c.requires.inner c.share_or_split-low.ensures.split.2

pub returns-then-inner-low-clause-place : goal.returns-then-inner-low-clause-place
returns-then-inner-low-clause-place g c =
    let at = (goal.at.returns-then-inner-low-clause-place g c).After-share_or_split-low in
    let child = cut g at in
    split_high c.share_or_split-low.result c.share_or_split-low.ensures.split.0 c.child_place-place.result c.args.inner.now c.share_or_split-low.new.inner c.args.key child.0 c.share_or_split-low.ensures.place c.share_or_split-low.ensures.split.1 c.child_place-place.ensures.within c.requires.inner child.1 c.share_or_split-low.ensures.split.2 (omega (arith, (next g at).least, c.if-inner-low.true))

pub returns-clause-same : goal.returns-clause-same
returns-clause-same g c = split_same c.share_or_split-low.result c.share_or_split-low.ensures.split.0 c.args.inner.now c.share_or_split-low.new.inner c.requires.inner c.share_or_split-low.ensures.split.2

pub returns-clause-place : goal.returns-clause-place
returns-clause-place g c =
    let at = (goal.at.returns-clause-place g c).After-share_or_split-low in
    let child = cut g at in
    split_low c.share_or_split-low.result c.share_or_split-low.ensures.split.0 c.child_place-place.result c.args.inner.now c.share_or_split-low.new.inner c.args.key child.0 c.share_or_split-low.ensures.place c.child_place-place.ensures.within c.requires.inner child.1 c.share_or_split-low.ensures.split.2 (omega (arith, (next g at).least, c.if-inner-low.false))
