use Rattle.mr_node.proofs.Common.{rules, arith, ◌≡◌, ◌-◌, option_map, sym, ap, subst, ◌∙◌, value_at, IsNode, IsInner, seen, seen_inner}
use Rattle.mr_node.proofs.PlaceLemmas.{packed_fits, got_used, never_none}
use Rattle.mr_node.proofs.NodeLemmas.{find_inner, children_rise, children_below}
use Rattle.mr_node.proofs.PageLemmas.{child_in}
use Rattle.mr_node.proofs.node.Node.towards.Goals as goal

pub unreachable-requires : goal.unreachable-requires
unreachable-requires g c =
    let inner = c.in-Inner.inner in
    let whole : IsInner inner = subst IsNode c.in-Inner.is c.self.invariant in
    never_none inner.len c.child_place-place.result c.index-inner-place.result inner.children whole.entries.packed c.child_place-place.ensures.within c.in-None.is

pub returns-in-Some-clause-same : goal.returns-in-Some-clause-same
returns-in-Some-clause-same g c =
    let inner = c.in-Inner.inner in
    let whole : IsInner inner = subst IsNode c.in-Inner.is c.self.invariant in
    let at = c.child_place-place.ensures in
    let got = got_used inner.len c.child_place-place.result c.index-inner-place.result c.in-Some.child inner.children whole.entries.packed at.within c.in-Some.is in
    let now : c.args.self.now ≡ seen_inner inner = sym c.self.view_is ∙ ap seen c.in-Inner.is in
    let below = find_inner c.args.key c.child_place-place.result inner c.in-Some.child whole at got in
    ap (λ s. value_at c.args.key s.rows) c.deref.ensures ∙ sym (ap (option_map (λ p. p.1)) below) ∙ sym (ap (λ s. value_at c.args.key s.rows) now)

pub returns-in-Some-clause-level : goal.returns-in-Some-clause-level
returns-in-Some-clause-level g c =
    let inner = c.in-Inner.inner in
    let whole : IsInner inner = subst IsNode c.in-Inner.is c.self.invariant in
    let at = c.child_place-place.ensures in
    let got = got_used inner.len c.child_place-place.result c.index-inner-place.result c.in-Some.child inner.children whole.entries.packed at.within c.in-Some.is in
    let now : c.args.self.now ≡ seen_inner inner = sym c.self.view_is ∙ ap seen c.in-Inner.is in
    ap (λ s. s.height) c.deref.ensures ∙ (child_in c.child_place-place.result inner c.in-Some.child whole got).level ∙ sym (ap (λ s. s.height - 1) now)

pub child_place-place-requires : goal.child_place-place-requires
child_place-place-requires g c =
    let inner = c.in-Inner.inner in
    let whole : IsInner inner = subst IsNode c.in-Inner.is c.self.invariant in
    (search rules, (whole.some, (whole.entries, (children_rise inner whole, children_below inner whole))))

pub listed : goal.listed
listed g c = omega (arith, c.child_place-place.ensures.within, packed_fits c.in-Inner.inner.len c.in-Inner.inner.children (subst IsNode c.in-Inner.is c.self.invariant).entries.packed)

pub bounds-inner-place : goal.bounds-inner-place
bounds-inner-place g c = omega (arith, c.child_place-place.ensures.within, (subst IsNode c.in-Inner.is c.self.invariant).entries.fits)

pub offset_bounds-inner-place : goal.offset_bounds-inner-place
offset_bounds-inner-place g c = omega (arith, c.child_place-place.ensures.within, (subst IsNode c.in-Inner.is c.self.invariant).entries.fits)
