use Rattle.mr_node.proofs.Common.{rules, arith, ◌≡◌, ◌+◌, ◌-◌, ◌*◌, ◌<◌, get_or, IfSome, refl, sym, ap, subst, ◌∙◌, row_at, key_of_pair, children_of, IsNode, IsInner, seen, seen_leaf, seen_inner, IsGrown, after_steps, IsRoomMade}
use Rattle.mr_node.proofs.PlaceLemmas.{got_used, never_none}
use Rattle.mr_node.proofs.ChildLemmas.{IsCutAt, child_at}
use Rattle.mr_node.proofs.NodeLemmas.{find_cut, child_count_fits}
use Rattle.mr_node.proofs.CutLemmas.{cut_of_room, grown_after}
use Rattle.mr_node.proofs.StepLemmas.{room_made, leaf_made, made_fewest, made_most}
use Rattle.mr_node.proofs.node.Node.+insert_split.Goals.{In-Inner, After-deref_mut-node, After-insert_split}
use Rattle.mr_node.proofs.node.Node.+insert_split.Goals as goal

-- the node's own part
whole : (g : _) (t : _) (c : In-Inner g t) → IsInner c.in-Inner.inner
whole g t c = subst IsNode c.in-Inner.is c.self.invariant

now : (g : _) (t : _) (c : In-Inner g t) → c.args.self.now ≡ seen_inner c.in-Inner.inner
now g t c = sym c.self.view_is ∙ ap seen c.in-Inner.is

-- the child to which the key belongs, which has room
cut : (g : _) (t : _) (c : After-deref_mut-node g t) → IsCutAt c.args.key (c.make_room-place.new.inner.height - 1) c.make_room-place.result (children_of c.make_room-place.new.inner) (child_at c.make_room-place.new.inner c.make_room-place.result c.in-Some.child) × (c.in-Some.child.node.value.width < 32)
cut g t c =
    let mid = c.make_room-place.new.inner in
    let same = c.make_room-place.ensures.same in
    let place = c.make_room-place.ensures.place in
    cut_of_room c.args.key c.make_room-place.result mid c.in-Some.child same.whole place (got_used mid.len c.make_room-place.result _ c.in-Some.child mid.children same.whole.entries.packed place.within c.in-Some.is)

-- its level below the node
level : (g : _) (t : _) (c : After-deref_mut-node g t) → IsInner c.in-Inner.inner → c.args.self.now ≡ seen_inner c.in-Inner.inner → c.deref_mut-node.result.now.height + 1 ≡ c.args.self.now.height
level g t c inner is = omega (arith, ap (λ s. s.height) c.deref_mut-node.ensures.value, (cut g t c).0.child.level, c.make_room-place.ensures.same.height, inner.above_leaves, ap (λ s. s.height) is)

pub insert_new-requires : goal.insert_new-requires
insert_new-requires g t c =
    let is : c.args.self.now ≡ seen_leaf c.in-Leaf.leaf = sym c.self.view_is ∙ ap seen c.in-Leaf.is in
    (search rules, (subst IsNode c.in-Leaf.is c.self.invariant, (c.requires.small, (ap (λ s. row_at key_of_pair c.args.key s.rows) (sym is) ∙ c.requires.missing, (omega (arith, ap (λ s. s.width) is, c.requires.room), c.requires.some)))))

pub make_room-place-requires : goal.make_room-place-requires
make_room-place-requires g t c =
    let at = goal.at.make_room-place-requires g t c in
    let inner = whole g t at.In-Inner in
    let is = now g t at.In-Inner in
    (search rules, (search rules, (inner, (omega (arith, ap (λ s. s.width) is, c.requires.room), omega (arith, ap (λ s. s.height) is, inner.above_leaves, c.requires.stock)))))

pub unreachable-requires : goal.unreachable-requires
unreachable-requires g t c = never_none c.make_room-place.new.inner.len c.make_room-place.result c.index-inner-place.result c.make_room-place.new.inner.children c.make_room-place.ensures.same.whole.entries.packed c.make_room-place.ensures.place.within c.in-None.is

pub insert_split-requires : goal.insert_split-requires
insert_split-requires g t c κs within =
    let at = goal.at.insert_split-requires g t c in
    let is = now g t at.In-Inner in
    let lower = level g t at.After-deref_mut-node (whole g t at.In-Inner) is in
    let both = cut g t at.After-deref_mut-node in
    let child_node = c.deref_mut-node.ensures.value in
    let absent = sym (find_cut c.args.key c.make_room-place.result (c.make_room-place.new.inner.height - 1) (children_of c.make_room-place.new.inner) _ both.0) ∙ ap (row_at key_of_pair c.args.key) c.make_room-place.ensures.same.rows ∙ ap (λ s. row_at key_of_pair c.args.key s.rows) (sym is) ∙ c.requires.missing in
    (omega (arith, lower, c.decreases), (within, (search rules, (c.requires.small, (c.requires.some, (ap (λ s. row_at key_of_pair c.args.key s.rows) child_node ∙ absent, (omega (arith, ap (λ s. s.width) child_node, both.1), omega (arith, lower, c.requires.stock, c.make_room-place.ensures.used))))))))

pub overflow_add-child : goal.overflow_add-child
overflow_add-child g t c =
    let mid = c.make_room-place.new.inner in
    let child = (cut g t (goal.at.overflow_add-child g t c).After-deref_mut-node).0.child in
    omega (arith, child_count_fits (mid.height - 1) (get_or mid.leasts c.make_room-place.result 0) c.in-Some.child child)

pub invariant_of-self-in-Some : goal.invariant_of-self-in-Some
invariant_of-self-in-Some g t c =
    let at = goal.at.invariant_of-self-in-Some g t c in
    (grown_after c.args.key c.args.value.now c.in-Inner.inner c.make_room-place.new.inner c.in-Some.child c.deref_mut-node.result.now c.insert_split.new.self c.args.self.now c.make_room-place.result c.min.result (c.in-Some.child.count + 1) (now g t at.In-Inner) c.make_room-place.ensures.same c.make_room-place.ensures.place.within (cut g t at.After-deref_mut-node).0 c.deref_mut-node.ensures.value c.requires.small c.requires.missing c.insert_split.ensures.grown c.requires.some c.min.ensures refl).0

pub returns-in-Some-clause-grown : goal.returns-in-Some-clause-grown
returns-in-Some-clause-grown g t c =
    let at = goal.at.returns-in-Some-clause-grown g t c in
    (grown_after c.args.key c.args.value.now c.in-Inner.inner c.make_room-place.new.inner c.in-Some.child c.deref_mut-node.result.now c.insert_split.new.self c.args.self.now c.make_room-place.result c.min.result (c.in-Some.child.count + 1) (now g t at.In-Inner) c.make_room-place.ensures.same c.make_room-place.ensures.place.within (cut g t at.After-deref_mut-node).0 c.deref_mut-node.ensures.value c.requires.small c.requires.missing c.insert_split.ensures.grown c.requires.some c.min.ensures refl).1

pub returns-in-Some-clause-used : goal.returns-in-Some-clause-used
returns-in-Some-clause-used g t c =
    let at = goal.at.returns-in-Some-clause-used g t c in
    let lower = level g t at.After-deref_mut-node (whole g t at.In-Inner) (now g t at.In-Inner) in
    omega (arith, lower, c.insert_split.ensures.used, c.make_room-place.ensures.used)

-- the steps of all levels, of which so many gave
made : (g : _) (t : _) (c : After-insert_split g t) → IsRoomMade c.args.self.now.height (c.args.stock.now - c.insert_split.new.stock) (after_steps (2 * (c.args.self.now.height + 1)) c.args.meter.now) c.insert_split.new.meter
made g t c =
    let deep = goal.at.After-insert_split g t c in
    room_made c.deref_mut-node.result.now.height c.args.self.now.height c.args.stock.now c.make_room-place.new.stock c.insert_split.new.stock c.args.meter.now c.tick.new.self c.make_room-place.new.meter c.insert_split.new.meter
    (level g t deep.After-deref_mut-node (whole g t deep.In-Inner) (now g t deep.In-Inner)) c.make_room-place.ensures.stock c.insert_split.ensures.stock c.tick.ensures c.make_room-place.ensures.made c.insert_split.ensures.made

pub returns-in-Some-clause-made : goal.returns-in-Some-clause-made
returns-in-Some-clause-made g t c = made g t (goal.at.returns-in-Some-clause-made g t c).After-insert_split

pub returns-in-Some-clause-no_fewer : goal.returns-in-Some-clause-no_fewer
returns-in-Some-clause-no_fewer g t c = made_fewest c.args.self.now.height (c.args.stock.now - c.insert_split.new.stock) c.args.meter.now c.insert_split.new.meter (made g t (goal.at.returns-in-Some-clause-no_fewer g t c).After-insert_split)

pub returns-in-Some-clause-steps : goal.returns-in-Some-clause-steps
returns-in-Some-clause-steps g t c = made_most c.args.self.now.height (c.args.stock.now - c.insert_split.new.stock) c.args.meter.now c.insert_split.new.meter (made g t (goal.at.returns-in-Some-clause-steps g t c).After-insert_split)

pub returns-in-Leaf-clause-made : goal.returns-in-Leaf-clause-made
returns-in-Leaf-clause-made g t c = leaf_made c.args.self.now.height c.args.stock.now c.args.meter.now c.tick.new.self (ap (λ s. s.height) (sym (sym (ap seen c.in-Leaf.is) ∙ c.self.view_is))) c.tick.ensures

pub returns-in-Leaf-clause-grown : goal.returns-in-Leaf-clause-grown
returns-in-Leaf-clause-grown g t c = subst (λ s. IfSome c.args.value.now (λ v. IsGrown c.args.key v s (seen_leaf c.insert_new.new.leaf))) (sym (ap seen c.in-Leaf.is) ∙ c.self.view_is) c.insert_new.ensures.grown

pub returns-in-Leaf-clause-no_fewer : goal.returns-in-Leaf-clause-no_fewer
returns-in-Leaf-clause-no_fewer g t c = omega (arith, c.tick.ensures, ap (λ s. s.height) (sym (ap seen c.in-Leaf.is) ∙ c.self.view_is))
