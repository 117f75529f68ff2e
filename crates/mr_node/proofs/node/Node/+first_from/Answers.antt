use Rattle.mr_node.proofs.Common.{rules, arith, ◌≡◌, ◌+◌, ◌-◌, option_map, sym, ap, subst, ◌∙◌, children_of, IsNode, IsInner, seen, seen_inner}
use Rattle.mr_node.proofs.PlaceLemmas.{packed_fits, got_used, never_none}
use Rattle.mr_node.proofs.ChildLemmas.{cut_child, child_at}
use Rattle.mr_node.proofs.NodeLemmas.{children_rise, children_below}
use Rattle.mr_node.proofs.FirstLemmas.{first_row, first_in_child, first_in_next, first_no_next}
use Rattle.mr_node.proofs.node.Node.+first_from.Goals as goal

pub returns-in-Leaf : goal.returns-in-Leaf
returns-in-Leaf g t c = c.first_entry.ensures ∙ ap (λ s. first_row c.args.key s.rows) (sym (ap seen c.in-Leaf.is) ∙ c.self.view_is)

pub unreachable-requires : goal.unreachable-requires
unreachable-requires g t c =
    let b = c.in-Inner.inner in
    let whole : IsInner b = subst IsNode c.in-Inner.is c.self.invariant in
    let i = c.child_place-place.result in
    never_none b.len (i + 1) c.index-inner-place-in-None-first_from.result b.children whole.entries.packed c.if-place-inner.false c.in-None-children.is

pub unreachable-requires-in-None : goal.unreachable-requires-in-None
unreachable-requires-in-None g t c =
    let b = c.in-Inner.inner in
    let whole : IsInner b = subst IsNode c.in-Inner.is c.self.invariant in
    let at = c.child_place-place.ensures in
    let i = c.child_place-place.result in
    never_none b.len i c.index-inner-place.result b.children whole.entries.packed at.within c.in-None.is

pub returns-in-Some-first_from : goal.returns-in-Some-first_from
returns-in-Some-first_from g t c =
    let b = c.in-Inner.inner in
    let whole : IsInner b = subst IsNode c.in-Inner.is c.self.invariant in
    let now : seen_inner b ≡ c.args.self.now = sym (ap seen c.in-Inner.is) ∙ c.self.view_is in
    let at = c.child_place-place.ensures in
    let i = c.child_place-place.result in
    let k = c.in-Some.child in
    let got = got_used b.len i c.index-inner-place.result k b.children whole.entries.packed at.within c.in-Some.is in
    let found = sym (ap (λ s. first_row c.args.key s.rows) c.deref.ensures) ∙ sym c.first_from.ensures ∙ ap (option_map (λ r. (r.0, r.1.now))) c.in-Some-first_from.is in
    sym (first_in_child c.args.key (b.height - 1) i (children_of b) (child_at b i k) (c.in-Some-first_from.row.0, c.in-Some-first_from.row.1.now) (cut_child c.args.key i b k whole at got) found) ∙ ap (λ s. first_row c.args.key s.rows) now

pub returns-then-place-inner : goal.returns-then-place-inner
returns-then-place-inner g t c =
    let b = c.in-Inner.inner in
    let whole : IsInner b = subst IsNode c.in-Inner.is c.self.invariant in
    let now : seen_inner b ≡ c.args.self.now = sym (ap seen c.in-Inner.is) ∙ c.self.view_is in
    let at = c.child_place-place.ensures in
    let i = c.child_place-place.result in
    let k = c.in-Some.child in
    let got = got_used b.len i c.index-inner-place.result k b.children whole.entries.packed at.within c.in-Some.is in
    let none = sym (ap (λ s. first_row c.args.key s.rows) c.deref.ensures) ∙ sym c.first_from.ensures ∙ ap (option_map (λ r. (r.0, r.1.now))) c.in-None-first_from.is in
    sym (first_no_next c.args.key i b k whole at got c.if-place-inner.true none) ∙ ap (λ s. first_row c.args.key s.rows) now

pub returns-in-Some-children : goal.returns-in-Some-children
returns-in-Some-children g t c =
    let b = c.in-Inner.inner in
    let whole : IsInner b = subst IsNode c.in-Inner.is c.self.invariant in
    let now : seen_inner b ≡ c.args.self.now = sym (ap seen c.in-Inner.is) ∙ c.self.view_is in
    let at = c.child_place-place.ensures in
    let i = c.child_place-place.result in
    let k = c.in-Some.child in
    let got = got_used b.len i c.index-inner-place.result k b.children whole.entries.packed at.within c.in-Some.is in
    let none = sym (ap (λ s. first_row c.args.key s.rows) c.deref.ensures) ∙ sym c.first_from.ensures ∙ ap (option_map (λ r. (r.0, r.1.now))) c.in-None-first_from.is in
    let next = got_used b.len (i + 1) c.index-inner-place-in-None-first_from.result c.in-Some-children.next b.children whole.entries.packed c.if-place-inner.false c.in-Some-children.is in
    c.first_from-in-Some-children.ensures ∙ ap (λ s. first_row c.args.key s.rows) c.deref-in-Some-children.ensures ∙ sym (first_in_next c.args.key i b k c.in-Some-children.next whole at got next c.if-place-inner.false none) ∙ ap (λ s. first_row c.args.key s.rows) now

pub child_place-place-requires : goal.child_place-place-requires
child_place-place-requires g t c =
    let inner = c.in-Inner.inner in
    let whole : IsInner inner = subst IsNode c.in-Inner.is c.self.invariant in
    (search rules, (whole.some, (whole.entries, (children_rise inner whole, children_below inner whole))))

pub listed : goal.listed
listed g t c = omega (arith, c.child_place-place.ensures.within, packed_fits c.in-Inner.inner.len c.in-Inner.inner.children (subst IsNode c.in-Inner.is c.self.invariant).entries.packed)

pub bounds-inner-place : goal.bounds-inner-place
bounds-inner-place g t c = omega (arith, c.child_place-place.ensures.within, (subst IsNode c.in-Inner.is c.self.invariant).entries.fits)

pub offset_bounds-inner-place : goal.offset_bounds-inner-place
offset_bounds-inner-place g t c = omega (arith, c.child_place-place.ensures.within, (subst IsNode c.in-Inner.is c.self.invariant).entries.fits)

pub overflow_add-place : goal.overflow_add-place
overflow_add-place g t c = omega (arith, c.child_place-place.ensures.within, (subst IsNode c.in-Inner.is c.self.invariant).entries.fits)

pub overflow_add-place-in-None-first_from : goal.overflow_add-place-in-None-first_from
overflow_add-place-in-None-first_from g t c = omega (arith, c.child_place-place.ensures.within, (subst IsNode c.in-Inner.is c.self.invariant).entries.fits)

pub listed-in-None-first_from : goal.listed-in-None-first_from
listed-in-None-first_from g t c = omega (arith, c.if-place-inner.false, packed_fits c.in-Inner.inner.len c.in-Inner.inner.children (subst IsNode c.in-Inner.is c.self.invariant).entries.packed)

pub bounds-inner-place-in-None-first_from : goal.bounds-inner-place-in-None-first_from
bounds-inner-place-in-None-first_from g t c = omega (arith, c.if-place-inner.false, (subst IsNode c.in-Inner.is c.self.invariant).entries.fits)

pub offset_bounds-inner-place-in-None-first_from : goal.offset_bounds-inner-place-in-None-first_from
offset_bounds-inner-place-in-None-first_from g t c = omega (arith, c.if-place-inner.false, (subst IsNode c.in-Inner.is c.self.invariant).entries.fits)
