use Rattle.mr_cut.proofs.Common.{rules, arith, ◌≡◌, ◌+◌, ◌-◌, ◌<◌, ◌≤◌, sym, ap, subst, ◌∙◌, IsOrderedBy, key_of_pair, seen, IsNode, child_at, beside}
use Rattle.mr_cut.proofs.SideJoinLemmas.{place_within, AreEnds, turned_ends, met_side_joined, side_rejoined}
use Rattle.mr_cut.proofs.SideJoinLemmas.{IsApart, apart_of, apart_back}
use Rattle.mr_cut.proofs.CountLemmas.{met_count, more_fits, inserted_count}
use Rattle.mr_cut.proofs.side_joins.+join_side.Goals.{After-turned-low, After-open-body, After-take_child-child}
use Rattle.mr_cut.proofs.side_joins.+join_side.Goals as goal

-- both are of one height
same : (g : _) (t : _) (c : After-turned-low g t) → c.args.node.value.height ≡ c.args.other.value.height
same g t c =
    let node = ap (λ s. s.height) c.deref.ensures in
    let other = ap (λ s. s.height) c.deref-2.ensures in
    omega (arith, c.if-height.true, c.height.ensures.value, c.height-2.ensures.value, node, other)

-- and in order
ends : (g : _) (t : _) (c : After-turned-low g t)
    → AreEnds c.args.node.value.height (c.args.node.value.width + c.args.other.value.width)
    (beside c.args.side c.args.node.value.rows c.args.other.value.rows) c.turned-low.result.0.value
    c.turned-low.result.1.value
ends g t c = turned_ends _ _ _ _ _ (same g t c) c.turned-low.ensures

-- the neighbour is lower
lower : (g : _) (t : _) (c : After-open-body g t) → c.args.other.value.height < c.args.node.value.height
lower g t c =
    let node = ap (λ s. s.height) c.deref.ensures in
    let other = ap (λ s. s.height) c.deref-2.ensures in
    omega (arith, c.requires.level, c.if-height.false, c.height.ensures.value, c.height-2.ensures.value, node, other)

-- the child at the side, and the others
apart : (g : _) (t : _) (c : After-take_child-child g t)
    → IsApart c.args.side c.args.node.value c.args.other.value c.take_child-child.new.inner
    c.take_child-child.result.node.value
apart g t c =
    let taken = c.take_child-child.ensures in
    let child = child_at c.in-Inner.inner c.end_of-place.result c.take_child-child.result in
    let whole = subst IsNode c.in-Inner.is c.open-body.ensures.whole in
    let now = sym (ap seen c.in-Inner.is) ∙ c.open-body.ensures.seen in
    let place = c.end_of-place.ensures in
    apart_of _ _ child _ whole now place taken.height taken.len taken.entries taken.rest taken.child c.requires.ordered

pub even-requires : goal.even-requires
even-requires g t c =
    let both = ends g t (goal.at.even-requires g t c).After-turned-low in
    (search rules, (both.level ∙ sym both.next, subst (IsOrderedBy key_of_pair) (sym both.list) c.requires.ordered))

pub take_child-child-requires : goal.take_child-child-requires
take_child-child-requires g t c =
    let whole = subst IsNode c.in-Inner.is c.open-body.ensures.whole in
    let within = place_within c.args.side _ _ c.end_of-place.ensures in
    (search rules, (whole.entries, omega (arith, within, whole.some)))

pub join_side-one-requires : goal.join_side-one-requires
join_side-one-requires g t c κs within =
    let at = goal.at.join_side-one-requires g t c in
    let lt = lower g t at.After-open-body in
    let off = apart g t at.After-take_child-child in
    let child = c.take_child-child.result.node.value.height in
    let level : c.args.other.value.height ≤ child = omega (arith, off.level, lt) in
    let stock : child - c.args.other.value.height ≤ c.args.stock.now = omega (arith, off.level, c.requires.stock) in
    (omega (arith, off.level, c.decreases), (within, (search rules, (level, (off.ordered_below, stock)))))

pub put_back-requires : goal.put_back-requires
put_back-requires g t c =
    let at = goal.at.put_back-requires g t c in
    let lt = lower g t at.After-open-body in
    let off = apart g t at.After-take_child-child in
    let back = apart_back _ _ c.join_side-one.result.1 off c.join_side-one.ensures.side_joined in
    let left = c.join_side-one.ensures.stock in
    let stock : 0 < c.join_side-one.new.stock = omega (arith, off.level, lt, left, c.requires.stock) in
    (search rules, (search rules, (off.rest, (off.room, (back.0, (back.1, (back.2, stock)))))))

pub returns-then-height-clause-side_joined : goal.returns-then-height-clause-side_joined
returns-then-height-clause-side_joined g t c =
    let at = (goal.at.returns-then-height-clause-side_joined g t c).After-turned-low in
    met_side_joined _ _ _ _ _ _ _ _ c.even.result.1 (same g t at) (ends g t at) c.even.ensures.nodes

pub returns-clause-side_joined : goal.returns-clause-side_joined
returns-clause-side_joined g t c =
    let off = apart g t (goal.at.returns-clause-side_joined g t c).After-take_child-child in
    let back = apart_back _ _ c.join_side-one.result.1 off c.join_side-one.ensures.side_joined in
    side_rejoined _ _ _ _ _ _ _ _ c.put_back.result.1 off.height off.width back.3 c.put_back.ensures.side_joined

pub returns-clause-stock : goal.returns-clause-stock
returns-clause-stock g t c =
    let at = goal.at.returns-clause-stock g t c in
    let lt = lower g t at.After-open-body in
    let off = apart g t at.After-take_child-child in
    omega (arith, off.level, lt, c.join_side-one.ensures.stock, c.put_back.ensures.stock, more_fits c.join_side-one.result.1)

pub returns-clause-steps : goal.returns-clause-steps
returns-clause-steps g t c =
    let at = goal.at.returns-clause-steps g t c in
    let lt = lower g t at.After-open-body in
    let level = (apart g t at.After-take_child-child).level in
    let opened = c.open-body.ensures.steps in
    let below = c.join_side-one.ensures in
    let back = c.put_back.ensures in
    let two = c.join_side-one.result.1 in
    inserted_count _ _ _ c.args.stock.now _ _ _ _ _ _ two lt level opened below.fewer below.steps back.stock back.steps

pub unreachable-requires : goal.unreachable-requires
unreachable-requires g t c =
    let lt = lower g t (goal.at.unreachable-requires g t c).After-open-body in
    omega (arith, lt, ap (λ s. s.height) (sym (ap seen c.in-Leaf.is) ∙ c.open-body.ensures.seen))

pub returns-then-height-clause-steps : goal.returns-then-height-clause-steps
returns-then-height-clause-steps g t c =
    let met = same g t (goal.at.returns-then-height-clause-steps g t c).After-turned-low in
    met_count _ _ c.args.stock.now _ _ met c.even.ensures.steps

pub overflow_sub-inner : goal.overflow_sub-inner
overflow_sub-inner g t c = omega (arith, (subst IsNode c.in-Inner.is c.open-body.ensures.whole).some)
