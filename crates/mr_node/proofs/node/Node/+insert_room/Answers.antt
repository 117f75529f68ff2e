use Rattle.mr_node.proofs.Common.{rules, arith, ◌≡◌, ◌-◌, ◌+◌, get_or, None, Some, sym, ap, subst, ◌∙◌, IsNode, IsInner, seen, seen_inner}
use Rattle.mr_node.proofs.PlaceLemmas.{packed_fits, got_used, never_none}
use Rattle.mr_node.proofs.ChildLemmas.{cut_child}
use Rattle.mr_node.proofs.NodeLemmas.{children_rise, children_below, room_answer, child_gains}
use Rattle.mr_node.proofs.node.Node.+insert_room.Goals.{In-Inner, In-Some}
use Rattle.mr_node.proofs.node.Node.+insert_room.Goals as goal

-- the node's own part
whole : (g : _) (t : _) (c : In-Inner g t) → IsInner c.in-Inner.inner
whole g t c = subst IsNode c.in-Inner.is c.self.invariant

now : (g : _) (t : _) (c : In-Inner g t) → c.args.self.now ≡ seen_inner c.in-Inner.inner
now g t c = sym c.self.view_is ∙ ap seen c.in-Inner.is

-- the child to which the key belongs
got : (g : _) (t : _) (c : In-Some g t) → IsInner c.in-Inner.inner → get_or c.in-Inner.inner.children c.child_place-place.result None ≡ Some c.in-Some.child
got g t c inner = got_used c.in-Inner.inner.len c.child_place-place.result _ c.in-Some.child c.in-Inner.inner.children inner.entries.packed c.child_place-place.ensures.within c.in-Some.is

pub child_place-place-requires : goal.child_place-place-requires
child_place-place-requires g t c =
    let inner = whole g t (goal.at.child_place-place-requires g t c).In-Inner in
    (search rules, (inner.some, (inner.entries, (children_rise c.in-Inner.inner inner, children_below c.in-Inner.inner inner))))

pub unreachable-requires : goal.unreachable-requires
unreachable-requires g t c =
    let inner = whole g t (goal.at.unreachable-requires g t c).In-Inner in
    never_none c.in-Inner.inner.len c.child_place-place.result _ c.in-Inner.inner.children inner.entries.packed c.child_place-place.ensures.within c.in-None.is

pub insert_room-answer-requires : goal.insert_room-answer-requires
insert_room-answer-requires g t c κs within =
    let at = goal.at.insert_room-answer-requires g t c in
    let b = c.in-Inner.inner in
    let inner = whole g t at.In-Inner in
    let cut = cut_child c.args.key c.child_place-place.result b c.in-Some.child inner c.child_place-place.ensures (got g t at.In-Some inner) in
    (omega (arith, ap (λ s. s.height) c.deref_mut-node.ensures.value, cut.child.level, inner.above_leaves, ap (λ s. s.height) (now g t at.In-Inner), c.decreases), (within, (search rules, (c.requires.small, c.requires.some))))

pub overflow_add-child : goal.overflow_add-child
overflow_add-child g t c =
    let at = goal.at.overflow_add-child g t c in
    let b = c.in-Inner.inner in
    let i = c.child_place-place.result in
    let inner = whole g t at.In-Inner in
    let cut = cut_child c.args.key i b c.in-Some.child inner c.child_place-place.ensures (got g t at.In-Some inner) in
    omega (arith, child_gains (b.height - 1) (get_or b.leasts i 0) c.from.result c.is_done-is_in.result c.in-Some.child cut.child c.from.ensures)

pub invariant_of-self-in-Some : goal.invariant_of-self-in-Some
invariant_of-self-in-Some g t c =
    let at = goal.at.invariant_of-self-in-Some g t c in
    let k = c.in-Some.child in
    let inner = whole g t at.In-Inner in
    (room_answer c.args.key c.child_place-place.result c.args.value.now c.in-Inner.inner k c.insert_room-answer.new.self c.deref_mut-node.result.now c.args.self.now c.least_after.result (k.count + c.from.result) c.is_done-is_in.result c.insert_room-answer.result (now g t at.In-Inner) c.deref_mut-node.ensures.value inner c.child_place-place.ensures (got g t at.In-Some inner) c.requires.small c.insert_room-answer.ensures.answer c.requires.some c.is_done-is_in.ensures c.least_after.ensures (ap (λ n. k.count + n) c.from.ensures)).0

pub returns-in-Some-clause-answer : goal.returns-in-Some-clause-answer
returns-in-Some-clause-answer g t c =
    let at = goal.at.returns-in-Some-clause-answer g t c in
    let k = c.in-Some.child in
    let inner = whole g t at.In-Inner in
    (room_answer c.args.key c.child_place-place.result c.args.value.now c.in-Inner.inner k c.insert_room-answer.new.self c.deref_mut-node.result.now c.args.self.now c.least_after.result (k.count + c.from.result) c.is_done-is_in.result c.insert_room-answer.result (now g t at.In-Inner) c.deref_mut-node.ensures.value inner c.child_place-place.ensures (got g t at.In-Some inner) c.requires.small c.insert_room-answer.ensures.answer c.requires.some c.is_done-is_in.ensures c.least_after.ensures (ap (λ n. k.count + n) c.from.ensures)).1

pub listed : goal.listed
listed g t c = omega (arith, c.child_place-place.ensures.within, packed_fits c.in-Inner.inner.len c.in-Inner.inner.children (whole g t (goal.at.listed g t c).In-Inner).entries.packed)

pub bounds-inner-place : goal.bounds-inner-place
bounds-inner-place g t c = omega (arith, c.child_place-place.ensures.within, (whole g t (goal.at.bounds-inner-place g t c).In-Inner).entries.fits)

pub offset_bounds-inner-place : goal.offset_bounds-inner-place
offset_bounds-inner-place g t c = omega (arith, c.child_place-place.ensures.within, (whole g t (goal.at.offset_bounds-inner-place g t c).In-Inner).entries.fits)

pub bounds-inner-place-in-Some : goal.bounds-inner-place-in-Some
bounds-inner-place-in-Some g t c = omega (arith, c.child_place-place.ensures.within, (whole g t (goal.at.bounds-inner-place-in-Some g t c).In-Inner).entries.fits)

pub offset_bounds-inner-place-in-Some : goal.offset_bounds-inner-place-in-Some
offset_bounds-inner-place-in-Some g t c = omega (arith, c.child_place-place.ensures.within, (whole g t (goal.at.offset_bounds-inner-place-in-Some g t c).In-Inner).entries.fits)

pub bounds-inner-place-in-Some-2 : goal.bounds-inner-place-in-Some-2
bounds-inner-place-in-Some-2 g t c = omega (arith, c.child_place-place.ensures.within, (whole g t (goal.at.bounds-inner-place-in-Some-2 g t c).In-Inner).entries.fits)

pub offset_bounds-inner-place-in-Some-2 : goal.offset_bounds-inner-place-in-Some-2
offset_bounds-inner-place-in-Some-2 g t c = omega (arith, c.child_place-place.ensures.within, (whole g t (goal.at.offset_bounds-inner-place-in-Some-2 g t c).In-Inner).entries.fits)
