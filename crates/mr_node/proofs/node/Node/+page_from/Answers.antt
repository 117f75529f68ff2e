use Rattle.mr_node.proofs.Common.{rules, arith, ◌≡◌, get_or, None, Some, sym, ap, subst, ◌∙◌, IsNode, IsInner, seen, seen_inner, IsPage}
use Rattle.mr_node.proofs.PlaceLemmas.{packed_fits, got_used, never_none}
use Rattle.mr_node.proofs.NodeLemmas.{children_rise, children_below}
use Rattle.mr_node.proofs.PageLemmas.{is_filled, is_emptied, child_in, none_before, none_to_next, page_in_child, page_of_none}
use Rattle.mr_node.proofs.node.Node.+page_from.Goals.{In-Inner, In-Some, After-page_from}
use Rattle.mr_node.proofs.node.Node.+page_from.Goals as goal

-- the node's own part
whole : (g : _) (t : _) (c : In-Inner g t) → IsInner c.in-Inner.inner
whole g t c = subst IsNode c.in-Inner.is c.self.invariant

now : (g : _) (t : _) (c : In-Inner g t) → seen_inner c.in-Inner.inner ≡ c.args.self.now
now g t c = sym (ap seen c.in-Inner.is) ∙ c.self.view_is

-- the child in turn
got : (g : _) (t : _) (c : In-Some g t) → IsInner c.in-Inner.inner → get_or c.in-Inner.inner.children c.loop-place.place None ≡ Some c.in-Some.child
got g t c inner = got_used c.in-Inner.inner.len c.loop-place.place c.index-inner-place.result c.in-Some.child c.in-Inner.inner.children inner.entries.packed c.loop-place-test.true c.in-Some.is

-- its page
in_child : (g : _) (t : _) (c : After-page_from g t) → IsPage c.args.key c.in-Some.child.node.value.rows c.page_from.new.page.items
in_child g t c = subst (λ s. IsPage c.args.key s.rows c.page_from.new.page.items) c.deref.ensures c.page_from.ensures

pub returns-in-Leaf : goal.returns-in-Leaf
returns-in-Leaf g t c = subst (λ s. IsPage c.args.key s.rows c.page_entries.new.page.items) (sym (ap seen c.in-Leaf.is) ∙ c.self.view_is) c.page_entries.ensures

pub child_place-place-requires : goal.child_place-place-requires
child_place-place-requires g t c =
    let inner = whole g t (goal.at.child_place-place-requires g t c).In-Inner in
    (search rules, (inner.some, (inner.entries, (children_rise c.in-Inner.inner inner, children_below c.in-Inner.inner inner))))

pub unreachable-requires : goal.unreachable-requires
unreachable-requires g t c =
    let inner = whole g t (goal.at.unreachable-requires g t c).In-Inner in
    never_none c.in-Inner.inner.len c.loop-place.place c.index-inner-place.result c.in-Inner.inner.children inner.entries.packed c.loop-place-test.true c.in-None.is

pub loop-place-init : goal.loop-place-init
loop-place-init g t c = (c.requires, none_before c.args.key c.child_place-place.result c.in-Inner.inner (whole g t (goal.at.loop-place-init g t c).In-Inner) c.child_place-place.ensures)

pub page_from-requires : goal.page_from-requires
page_from-requires g t c κs within =
    let at = goal.at.page_from-requires g t c in
    let inner = whole g t at.In-Inner in
    let child = child_in c.loop-place.place c.in-Inner.inner c.in-Some.child inner (got g t at.In-Some inner) in
    (omega (arith, ap (λ s. s.height) c.deref.ensures, child.level, inner.above_leaves, ap (λ s. s.height) (now g t at.In-Inner), c.decreases), (within, (search rules, (search rules, c.loop-place.invariant.0))))

pub returns-then-not-is_empty : goal.returns-then-not-is_empty
returns-then-not-is_empty g t c =
    let at = goal.at.returns-then-not-is_empty g t c in
    let inner = whole g t at.In-Inner in
    let page = c.page_from.new.page.items in
    subst (λ s. IsPage c.args.key s.rows page) (now g t at.In-Inner)
    (page_in_child c.args.key c.loop-place.place c.in-Inner.inner c.in-Some.child page inner (got g t at.In-Some inner) c.loop-place.invariant.1 (in_child g t at.After-page_from)
    (is_filled page c.is_empty.result c.is_empty.ensures c.if-not-is_empty.true))

pub loop-place-preserved : goal.loop-place-preserved
loop-place-preserved g t c =
    let at = goal.at.loop-place-preserved g t c in
    let inner = whole g t at.In-Inner in
    let empty = is_emptied c.page_from.new.page.items c.is_empty.result c.is_empty.ensures c.if-not-is_empty.false in
    let none = subst (IsPage c.args.key c.in-Some.child.node.value.rows) empty (in_child g t at.After-page_from) in
    (empty, none_to_next c.args.key c.loop-place.place c.in-Inner.inner c.in-Some.child inner (got g t at.In-Some inner) c.loop-place.invariant.1 none)

pub returns-after-loop-place : goal.returns-after-loop-place
returns-after-loop-place g t c =
    let at = goal.at.returns-after-loop-place g t c in
    let page = c.loop-place.page.items in
    subst (λ s. IsPage c.args.key s.rows page) (now g t at.In-Inner)
    (page_of_none c.args.key c.loop-place.place c.in-Inner.inner page (whole g t at.In-Inner) c.loop-place-test.false c.loop-place.invariant.0 c.loop-place.invariant.1)

pub listed : goal.listed
listed g t c = omega (arith, c.loop-place-test.true, packed_fits c.in-Inner.inner.len c.in-Inner.inner.children (whole g t (goal.at.listed g t c).In-Inner).entries.packed)

pub bounds-inner-place : goal.bounds-inner-place
bounds-inner-place g t c = omega (arith, c.loop-place-test.true, (whole g t (goal.at.bounds-inner-place g t c).In-Inner).entries.fits)

pub offset_bounds-inner-place : goal.offset_bounds-inner-place
offset_bounds-inner-place g t c = omega (arith, c.loop-place-test.true, (whole g t (goal.at.offset_bounds-inner-place g t c).In-Inner).entries.fits)
