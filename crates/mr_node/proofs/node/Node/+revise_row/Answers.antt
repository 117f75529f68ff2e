use Rattle.mr_node.proofs.Common.{rules, arith, ◌≡◌, get_or, None, Some, is_some, sym, ap, subst, ◌∙◌, refl, value_at, revised_at, IsNode, IsInner, seen, seen_inner}
use Rattle.mr_node.proofs.PlaceLemmas.{packed_fits, got_used, never_none}
use Rattle.mr_node.proofs.SizeLemmas.{leaf_well, leaf_with, inner_well}
use Rattle.mr_node.proofs.ChildLemmas.{cut_child}
use Rattle.mr_node.proofs.NodeLemmas.{children_rise, children_below, inner_with, part_with}
use Rattle.mr_node.proofs.ReviseLemmas.{IsRevisedIn, revised_inner, revised_answer, spent_same, value_in_child}
use Rattle.mr_node.proofs.node.Node.+revise_row.Goals.{In-Inner, In-Some, After-revise_row}
use Rattle.mr_node.proofs.node.Node.+revise_row.Goals as goal

-- the node's own part
whole : (g : _) (t : _) (c : In-Inner g t) → IsInner c.in-Inner.inner
whole g t c = subst IsNode c.in-Inner.is c.self.invariant

now : (g : _) (t : _) (c : In-Inner g t) → c.args.self.now ≡ seen_inner c.in-Inner.inner
now g t c = sym c.self.view_is ∙ ap seen c.in-Inner.is

-- the child to which the key belongs
got : (g : _) (t : _) (c : In-Some g t) → IsInner c.in-Inner.inner → get_or c.in-Inner.inner.children c.child_place_at-place.result None ≡ Some c.in-Some.child
got g t c inner = got_used c.in-Inner.inner.len c.child_place_at-place.result _ c.in-Some.child c.in-Inner.inner.children inner.entries.packed c.child_place_at-place.ensures.within c.in-Some.is

-- the node with the value changed in that child
revised : (g : _) (t : _) (c : After-revise_row g t) → IsInner c.in-Inner.inner → get_or c.in-Inner.inner.children c.child_place_at-place.result None ≡ Some c.in-Some.child → IsRevisedIn c.args.key c.child_place_at-place.result (g.E.Revise.revised c.args.revision.now) c.in-Inner.inner c.in-Some.child c.revise_row.new.self
revised g t c inner is = revised_inner c.args.key c.child_place_at-place.result (g.E.Revise.revised c.args.revision.now) c.in-Inner.inner c.in-Some.child c.deref_mut-node.result.now c.revise_row.new.self inner c.child_place_at-place.ensures is c.revise_row.ensures.rows c.deref_mut-node.ensures.value c.revise_row.ensures.well

pub child_place_at-place-requires : goal.child_place_at-place-requires
child_place_at-place-requires g t c =
    let inner = whole g t (goal.at.child_place_at-place-requires g t c).In-Inner in
    (search rules, (inner.some, (inner.entries, (children_rise c.in-Inner.inner inner, children_below c.in-Inner.inner inner))))

pub unreachable-requires : goal.unreachable-requires
unreachable-requires g t c =
    let inner = whole g t (goal.at.unreachable-requires g t c).In-Inner in
    never_none c.in-Inner.inner.len c.child_place_at-place.result _ c.in-Inner.inner.children inner.entries.packed c.child_place_at-place.ensures.within c.in-None.is

pub invariant_of-self-in-Inner : goal.invariant_of-self-in-Inner
invariant_of-self-in-Inner g t c =
    let at = goal.at.invariant_of-self-in-Inner g t c in
    let inner = whole g t at.In-Inner in
    (revised g t at.After-revise_row inner (got g t at.In-Some inner)).whole

pub returns-in-Leaf-clause-rows : goal.returns-in-Leaf-clause-rows
returns-in-Leaf-clause-rows g t c = leaf_with c.args.self.now c.in-Leaf.leaf c.revise_entry_at.new.leaf (revised_at c.args.key (g.E.Revise.revised c.args.revision.now)) (sym c.self.view_is ∙ ap seen c.in-Leaf.is) c.revise_entry_at.ensures.len c.revise_entry_at.ensures.rows

pub returns-in-Leaf-clause-well : goal.returns-in-Leaf-clause-well
returns-in-Leaf-clause-well g t c = leaf_well _ c.revise_entry_at.ensures.leaf

pub returns-in-Some-clause-rows : goal.returns-in-Some-clause-rows
returns-in-Some-clause-rows g t c =
    let at = goal.at.returns-in-Some-clause-rows g t c in
    let inner = whole g t at.In-Inner in
    let after = revised g t at.After-revise_row inner (got g t at.In-Some inner) in
    revised_answer c.args.key (g.E.Revise.revised c.args.revision.now) c.in-Inner.inner (inner_with c.in-Inner.inner c.child_place_at-place.result (part_with c.in-Some.child c.revise_row.new.self)) c.args.self.now (now g t at.In-Inner) refl after.rows

pub returns-in-Some-clause-well : goal.returns-in-Some-clause-well
returns-in-Some-clause-well g t c =
    let at = goal.at.returns-in-Some-clause-well g t c in
    let inner = whole g t at.In-Inner in
    inner_well _ (revised g t at.After-revise_row inner (got g t at.In-Some inner)).whole

-- the value at the key, in that child and here
value : (g : _) (t : _) (c : After-revise_row g t) → IsInner c.in-Inner.inner → c.args.self.now ≡ seen_inner c.in-Inner.inner → get_or c.in-Inner.inner.children c.child_place_at-place.result None ≡ Some c.in-Some.child → value_at c.args.key c.deref_mut-node.result.now.rows ≡ value_at c.args.key c.args.self.now.rows
value g t c inner is is_child =
    ap (λ s. value_at c.args.key s.rows) c.deref_mut-node.ensures.value
    ∙ sym (value_in_child c.args.key c.child_place_at-place.result c.in-Inner.inner c.in-Some.child inner c.child_place_at-place.ensures is_child) ∙ sym (ap (λ s. value_at c.args.key s.rows) is)

pub returns-in-Some-clause-spent : goal.returns-in-Some-clause-spent
returns-in-Some-clause-spent g t c =
    let at = goal.at.returns-in-Some-clause-spent g t c in
    let inner = whole g t at.In-Inner in
    let same = value g t at.After-revise_row inner (now g t at.In-Inner) (got g t at.In-Some inner) in
    c.revise_row.ensures.spent ∙ spent_same c.args.key g.E.Revise.spent c.args.revision.now c.deref_mut-node.result.now.rows c.args.self.now.rows same

pub returns-in-Some-clause-found : goal.returns-in-Some-clause-found
returns-in-Some-clause-found g t c =
    let at = goal.at.returns-in-Some-clause-found g t c in
    let inner = whole g t at.In-Inner in
    let same = value g t at.After-revise_row inner (now g t at.In-Inner) (got g t at.In-Some inner) in
    c.revise_row.ensures.found ∙ ap is_some same

pub listed : goal.listed
listed g t c = omega (arith, c.child_place_at-place.ensures.within, packed_fits c.in-Inner.inner.len c.in-Inner.inner.children (whole g t (goal.at.listed g t c).In-Inner).entries.packed)

pub bounds-inner-place : goal.bounds-inner-place
bounds-inner-place g t c = omega (arith, c.child_place_at-place.ensures.within, (whole g t (goal.at.bounds-inner-place g t c).In-Inner).entries.fits)

pub offset_bounds-inner-place : goal.offset_bounds-inner-place
offset_bounds-inner-place g t c = omega (arith, c.child_place_at-place.ensures.within, (whole g t (goal.at.offset_bounds-inner-place g t c).In-Inner).entries.fits)

pub revise_row-requires : goal.revise_row-requires
revise_row-requires g t c κs within =
    let at = goal.at.revise_row-requires g t c in
    let inner = whole g t at.In-Inner in
    let cut = cut_child c.args.key c.child_place_at-place.result c.in-Inner.inner c.in-Some.child inner c.child_place_at-place.ensures (got g t at.In-Some inner) in
    (omega (arith, ap (λ s. s.height) c.deref_mut-node.ensures.value, cut.child.level, inner.above_leaves, ap (λ s. s.height) (now g t at.In-Inner), c.decreases), (within.0, (within.1, search rules)))
