use Rattle.mr_node.proofs.Common.{rules, arith, cond, ◌≡◌, ◌+◌, ◌-◌, option_map, refl, sym, ap, subst, ◌∙◌, value_at, children_of, IsNode, IsInner, seen, seen_leaf, seen_inner, IsShrunk}
use Rattle.mr_node.proofs.PlaceLemmas.{packed_fits, got_used, never_none}
use Rattle.mr_node.proofs.ChildLemmas.{IsCutAt, child_at, cut_child}
use Rattle.mr_node.proofs.SizeLemmas.{leaf_well}
use Rattle.mr_node.proofs.NodeLemmas.{children_rise, children_below, inner_set, find_cut}
use Rattle.mr_node.proofs.RemoveLemmas.{IsRemovedIn, count_gone, removed_in, shrunk_inner, rebalance_most}
use Rattle.mr_node.proofs.node.Node.+take_at.Goals.{In-Inner, After-deref_mut-node, After-note_gone-least}
use Rattle.mr_node.proofs.node.Node.+take_at.Goals as goal

-- the node's own part
whole : (g : _) (t : _) (c : In-Inner g t) → IsInner c.in-Inner.inner
whole g t c = subst IsNode c.in-Inner.is c.self.invariant

now : (g : _) (t : _) (c : In-Inner g t) → c.args.self.now ≡ seen_inner c.in-Inner.inner
now g t c = sym c.self.view_is ∙ ap seen c.in-Inner.is

-- the child to which the key belongs
cut : (g : _) (t : _) (c : After-deref_mut-node g t) → IsInner c.in-Inner.inner → IsCutAt c.args.key (c.in-Inner.inner.height - 1) c.child_place-place.result (children_of c.in-Inner.inner) (child_at c.in-Inner.inner c.child_place-place.result c.in-Some.child)
cut g t c inner = cut_child c.args.key c.child_place-place.result c.in-Inner.inner c.in-Some.child inner c.child_place-place.ensures (got_used c.in-Inner.inner.len c.child_place-place.result _ c.in-Some.child c.in-Inner.inner.children inner.entries.packed c.child_place-place.ensures.within c.in-Some.is)

-- its level below the node
level : (g : _) (t : _) (c : After-deref_mut-node g t) → IsInner c.in-Inner.inner → c.args.self.now ≡ seen_inner c.in-Inner.inner → c.deref_mut-node.result.now.height + 1 ≡ c.args.self.now.height
level g t c inner is = omega (arith, ap (λ s. s.height) c.deref_mut-node.ensures.value, (cut g t c inner).child.level, inner.above_leaves, ap (λ s. s.height) is)

-- the node with what became of that child
removed : (g : _) (t : _) (c : After-note_gone-least g t) → IsInner c.in-Inner.inner → IsCutAt c.args.key (c.in-Inner.inner.height - 1) c.child_place-place.result (children_of c.in-Inner.inner) (child_at c.in-Inner.inner c.child_place-place.result c.in-Some.child) → IsRemovedIn c.args.key c.child_place-place.result c.in-Inner.inner (inner_set c.in-Inner.inner c.child_place-place.result c.note_gone-least.result c.note_gone-least.new.child) c.note_gone-least.new.child
removed g t c inner at =
    let k = c.in-Some.child in
    let n = c.take_at.new.self in
    let child_node = c.deref_mut-node.ensures.value in
    let shrunk = subst (λ s. IsShrunk c.args.key s n) child_node c.take_at.ensures.new in
    let gone = c.take_at.ensures.value ∙ ap (λ s. value_at c.args.key s.rows) child_node in
    let count = c.note_gone-least.ensures.count ∙ ap (λ x. k.count - cond x 1 0) c.is_some.ensures in
    removed_in c.args.key c.child_place-place.result c.note_gone-least.result c.in-Inner.inner k c.note_gone-least.new.child n inner at c.child_place-place.ensures.within shrunk (ap (λ x. x.value) c.note_gone-least.ensures.node) c.note_gone-least.ensures.least (count_gone c.args.key k.count c.note_gone-least.new.child.count c.take_at.new.gone k.node.value.rows n.rows shrunk.rows at.child.counted gone count)

pub child_place-place-requires : goal.child_place-place-requires
child_place-place-requires g t c =
    let inner = whole g t (goal.at.child_place-place-requires g t c).In-Inner in
    (search rules, (inner.some, (inner.entries, (children_rise c.in-Inner.inner inner, children_below c.in-Inner.inner inner))))

pub take_at-requires : goal.take_at-requires
take_at-requires g t c κs within =
    let at = goal.at.take_at-requires g t c in
    let inner = whole g t at.In-Inner in
    let child = (cut g t at.After-deref_mut-node inner).child in
    let lower = level g t at.After-deref_mut-node inner (now g t at.In-Inner) in
    (omega (arith, lower, c.decreases), (within, (search rules, λ h. omega (arith, ap (λ s. s.width) c.deref_mut-node.ensures.value, child.enough))))

pub rebalance-requires : goal.rebalance-requires
rebalance-requires g t c =
    let at = goal.at.rebalance-requires g t c in
    let inner = whole g t at.In-Inner in
    let is = now g t at.In-Inner in
    let loose = (removed g t at.After-note_gone-least inner (cut g t at.After-deref_mut-node inner)).loose in
    (search rules, (search rules, (loose, (omega (arith, c.requires, ap (λ s. s.height) is, ap (λ s. s.width) is, inner.above_leaves), c.child_place-place.ensures.within))))

pub unreachable-requires : goal.unreachable-requires
unreachable-requires g t c =
    let inner = whole g t (goal.at.unreachable-requires g t c).In-Inner in
    never_none c.in-Inner.inner.len c.child_place-place.result _ c.in-Inner.inner.children inner.entries.packed c.child_place-place.ensures.within c.in-None.is

pub returns-in-Leaf-clause-new : goal.returns-in-Leaf-clause-new
returns-in-Leaf-clause-new g t c =
    let is : c.args.self.now ≡ seen_leaf c.in-Leaf.leaf = sym c.self.view_is ∙ ap seen c.in-Leaf.is in
    subst (λ s. IsShrunk c.args.key s (seen_leaf c.remove_entry.new.leaf)) (sym is) (record { rows = c.remove_entry.ensures.rows; level = refl; width = c.remove_entry.ensures.len; well = leaf_well _ c.remove_entry.ensures.leaf })

pub returns-in-Some-clause-new : goal.returns-in-Some-clause-new
returns-in-Some-clause-new g t c =
    let at = goal.at.returns-in-Some-clause-new g t c in
    let inner = whole g t at.In-Inner in
    let after = removed g t at.After-note_gone-least inner (cut g t at.After-deref_mut-node inner) in
    shrunk_inner c.args.key c.child_place-place.result c.in-Inner.inner _ c.rebalance.new.inner c.note_gone-least.new.child c.args.self.now (now g t at.In-Inner) after refl refl c.rebalance.ensures.rebalanced

pub returns-in-Some-clause-value : goal.returns-in-Some-clause-value
returns-in-Some-clause-value g t c =
    let at = goal.at.returns-in-Some-clause-value g t c in
    let found = find_cut c.args.key c.child_place-place.result (c.in-Inner.inner.height - 1) (children_of c.in-Inner.inner) _ (cut g t at.After-deref_mut-node (whole g t at.In-Inner)) in
    c.take_at.ensures.value ∙ ap (λ s. value_at c.args.key s.rows) c.deref_mut-node.ensures.value ∙ sym (ap (option_map (λ p. p.1)) found) ∙ sym (ap (λ s. value_at c.args.key s.rows) (now g t at.In-Inner))

pub returns-in-Some-clause-no_fewer : goal.returns-in-Some-clause-no_fewer
returns-in-Some-clause-no_fewer g t c =
    let at = goal.at.returns-in-Some-clause-no_fewer g t c in
    let inner = whole g t at.In-Inner in
    let after = removed g t at.After-note_gone-least inner (cut g t at.After-deref_mut-node inner) in
    let most = rebalance_most _ c.note_gone-least.new.child _ _ after.got c.rebalance.ensures.thin c.rebalance.ensures.enough in
    omega (arith, level g t at.After-deref_mut-node inner (now g t at.In-Inner), c.tick.ensures, c.take_at.ensures.no_fewer, most.0)

pub returns-in-Some-clause-steps : goal.returns-in-Some-clause-steps
returns-in-Some-clause-steps g t c =
    let at = goal.at.returns-in-Some-clause-steps g t c in
    let inner = whole g t at.In-Inner in
    let after = removed g t at.After-note_gone-least inner (cut g t at.After-deref_mut-node inner) in
    let most = rebalance_most _ c.note_gone-least.new.child _ _ after.got c.rebalance.ensures.thin c.rebalance.ensures.enough in
    omega (arith, level g t at.After-deref_mut-node inner (now g t at.In-Inner), c.tick.ensures, c.take_at.ensures.steps, most.1)

pub returns-in-Leaf-clause-no_fewer : goal.returns-in-Leaf-clause-no_fewer
returns-in-Leaf-clause-no_fewer g t c = omega (arith, c.tick.ensures, ap (λ s. s.height) (sym (ap seen c.in-Leaf.is) ∙ c.self.view_is))

pub listed : goal.listed
listed g t c = omega (arith, c.child_place-place.ensures.within, packed_fits c.in-Inner.inner.len c.in-Inner.inner.children (whole g t (goal.at.listed g t c).In-Inner).entries.packed)

pub bounds-inner-place : goal.bounds-inner-place
bounds-inner-place g t c = omega (arith, c.child_place-place.ensures.within, (whole g t (goal.at.bounds-inner-place g t c).In-Inner).entries.fits)

pub offset_bounds-inner-place : goal.offset_bounds-inner-place
offset_bounds-inner-place g t c = omega (arith, c.child_place-place.ensures.within, (whole g t (goal.at.offset_bounds-inner-place g t c).In-Inner).entries.fits)

pub bounds-inner-place-in-Some : goal.bounds-inner-place-in-Some
bounds-inner-place-in-Some g t c = omega (arith, c.child_place-place.ensures.within, (whole g t (goal.at.bounds-inner-place-in-Some g t c).In-Inner).entries.fits)

pub offset_bounds-inner-place-in-Some : goal.offset_bounds-inner-place-in-Some
offset_bounds-inner-place-in-Some g t c = omega (arith, c.child_place-place.ensures.within, (whole g t (goal.at.offset_bounds-inner-place-in-Some g t c).In-Inner).entries.fits)
