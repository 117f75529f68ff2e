use Rattle.mr_node.proofs.Common.{rules, arith, ◌≡◌, option_map, sym, ap, subst, ◌∙◌, value_at, IsNode, IsInner, seen, seen_inner}
use Rattle.mr_node.proofs.PlaceLemmas.{packed_fits, got_used, never_none}
use Rattle.mr_node.proofs.ChildLemmas.{cut_child}
use Rattle.mr_node.proofs.NodeLemmas.{find_inner, children_rise, children_below}
use Rattle.mr_node.proofs.node.Node.+find_row.Goals as goal

pub unreachable-requires : goal.unreachable-requires
unreachable-requires g t c =
    let inner = c.in-Inner.inner in
    let whole : IsInner inner = subst IsNode c.in-Inner.is c.self.invariant in
    let at = c.child_place_at-place.ensures in
    never_none inner.len c.child_place_at-place.result c.index-inner-place.result inner.children whole.entries.packed at.within c.in-None.is

pub returns-in-Some : goal.returns-in-Some
returns-in-Some g t c =
    let inner = c.in-Inner.inner in
    let whole : IsInner inner = subst IsNode c.in-Inner.is c.self.invariant in
    let at = c.child_place_at-place.ensures in
    let got = got_used inner.len c.child_place_at-place.result c.index-inner-place.result c.in-Some.child inner.children whole.entries.packed at.within c.in-Some.is in
    let now : c.args.self.now ≡ seen_inner inner = sym c.self.view_is ∙ ap seen c.in-Inner.is in
    let below = find_inner c.args.key c.child_place_at-place.result inner c.in-Some.child whole at got in
    c.find_row.ensures ∙ ap (λ s. value_at c.args.key s.rows) c.deref.ensures ∙ sym (ap (option_map (λ p. p.1)) below) ∙ sym (ap (λ s. value_at c.args.key s.rows) now)

pub child_place_at-place-requires : goal.child_place_at-place-requires
child_place_at-place-requires g t c =
    let inner = c.in-Inner.inner in
    let whole : IsInner inner = subst IsNode c.in-Inner.is c.self.invariant in
    (search rules, (whole.some, (whole.entries, (children_rise inner whole, children_below inner whole))))

pub listed : goal.listed
listed g t c = omega (arith, c.child_place_at-place.ensures.within, packed_fits c.in-Inner.inner.len c.in-Inner.inner.children (subst IsNode c.in-Inner.is c.self.invariant).entries.packed)

pub bounds-inner-place : goal.bounds-inner-place
bounds-inner-place g t c = omega (arith, c.child_place_at-place.ensures.within, (subst IsNode c.in-Inner.is c.self.invariant).entries.fits)

pub offset_bounds-inner-place : goal.offset_bounds-inner-place
offset_bounds-inner-place g t c = omega (arith, c.child_place_at-place.ensures.within, (subst IsNode c.in-Inner.is c.self.invariant).entries.fits)

pub find_row-requires : goal.find_row-requires
find_row-requires g t c κs within =
    let inner = c.in-Inner.inner in
    let whole : IsInner inner = subst IsNode c.in-Inner.is c.self.invariant in
    let at = c.child_place_at-place.ensures in
    let got = got_used inner.len c.child_place_at-place.result c.index-inner-place.result c.in-Some.child inner.children whole.entries.packed at.within c.in-Some.is in
    let now : c.args.self.now ≡ seen_inner inner = sym c.self.view_is ∙ ap seen c.in-Inner.is in
    let cut = cut_child c.args.key c.child_place_at-place.result inner c.in-Some.child whole at got in
    (omega (arith, ap (λ s. s.height) c.deref.ensures, cut.child.level, whole.above_leaves, ap (λ s. s.height) now, c.decreases), (within, search rules))
