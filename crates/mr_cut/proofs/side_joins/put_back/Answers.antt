use Rattle.mr_cut.proofs.Common.{rules, arith, ◌≡◌, ◌+◌, ◌-◌, ◌++◌, IfSome, sym, subst, ◌∙◌, IsOrderedBy, key_of_pair, children_of, rows_of, IsInner, IsChildNode, beside, MaybeNode, rows_with}
use Rattle.mr_cut.proofs.SideJoinLemmas.{place_within, own_level, put_beside, near_children, IsNearBack, near_back}
use Rattle.mr_cut.proofs.SideJoinLemmas.{inserted_one, AreEnds, back_ends, back_side_joined}
use Rattle.mr_cut.proofs.side_joins.put_back.Goals.{After-turned-near, After-insert_child, After-turned-first, After-insert_child-in-None}
use Rattle.mr_cut.proofs.side_joins.put_back.Goals as goal

-- the two, the nearer one first
children : (g : _) (c : After-turned-near g)
    → IsChildNode (c.args.inner.height - 1) c.turned-near.result.0.value
    × IsChildNode (c.args.inner.height - 1) c.turned-near.result.1.value
children g c =
    let two = subst (λ o. IfSome o (λ y. IsChildNode (c.args.inner.height - 1) y.value)) c.in-Some.is c.requires.two in
    near_children _ _ _ _ _ _ c.requires.one two c.turned-near.ensures

-- the nearer one is back
near : (g : _) (c : After-insert_child g) → IsChildNode (c.args.inner.height - 1) c.turned-near.result.0.value
    → IsNearBack c.args.side c.args.inner c.insert_child.new.inner c.args.one.value c.in-Some.two.value
    c.turned-near.result.1.value
near g c child =
    let rest = rows_of (children_of c.args.inner) in
    let order : MaybeNode g.row.V.Denot → Type 0 =
    λ o. IsOrderedBy key_of_pair (beside c.args.side rest (rows_with c.args.one.value o)) in
    let ordered = subst order c.in-Some.is c.requires.ordered in
    let place = c.end_of-place.ensures in
    let put = c.insert_child.ensures in
    let turned = c.turned-near.ensures in
    near_back _ _ _ _ _ _ _ _ place c.requires.rest put.children put.height put.len put.entries child turned ordered

-- and a node of the other one beside it
ends : (g : _) (c : After-turned-first g)
    → IsNearBack c.args.side c.args.inner c.insert_child.new.inner c.args.one.value c.in-Some.two.value
    c.turned-near.result.1.value
    → AreEnds c.args.inner.height (c.args.inner.len + 2)
    (beside c.args.side (rows_of (children_of c.args.inner)) (c.args.one.value.rows ++ c.in-Some.two.value.rows))
    c.turned-first.result.0.value c.turned-first.result.1.value
ends g c back =
    let put = c.insert_child.ensures in
    let node = c.built-node.ensures.seen in
    back_ends _ _ _ _ _ _ _ _ _ _ put.height put.len back node c.lone-last.ensures.node c.turned-first.ensures

-- the only one is back
alone : (g : _) (c : After-insert_child-in-None g) → IsInner c.insert_child-in-None.new.inner
    × (rows_of (children_of c.insert_child-in-None.new.inner)
    ≡ beside c.args.side (rows_of (children_of c.args.inner)) c.args.one.value.rows)
alone g c =
    let rest = rows_of (children_of c.args.inner) in
    let order : MaybeNode g.row.V.Denot → Type 0 =
    λ o. IsOrderedBy key_of_pair (beside c.args.side rest (rows_with c.args.one.value o)) in
    let ordered = subst order c.in-None.is c.requires.ordered in
    let place = c.end_of-place.ensures in
    let put = c.insert_child-in-None.ensures in
    put_beside _ _ _ _ _ place c.requires.rest put.children put.height put.len put.entries c.requires.one ordered

pub insert_child-requires : goal.insert_child-requires
insert_child-requires g c =
    let within = place_within c.args.side c.end_of-place.result c.args.inner.len c.end_of-place.ensures in
    let child = (children g (goal.at.insert_child-requires g c).After-turned-near).0 in
    (search rules, (search rules, (c.requires.rest.entries, (c.requires.room, (within, own_level _ _ child)))))

pub insert_child-requires-in-None : goal.insert_child-requires-in-None
insert_child-requires-in-None g c =
    let within = place_within c.args.side c.end_of-place.result c.args.inner.len c.end_of-place.ensures in
    let child = c.requires.one in
    (search rules, (search rules, (c.requires.rest.entries, (c.requires.room, (within, own_level _ _ child)))))

pub built-node-requires : goal.built-node-requires
built-node-requires g c =
    let at = goal.at.built-node-requires g c in
    (search rules, (search rules, (near g at.After-insert_child (children g at.After-turned-near).0).inner))

pub lone-last-requires : goal.lone-last-requires
lone-last-requires g c =
    let far = (children g (goal.at.lone-last-requires g c).After-turned-near).1 in
    (search rules, (c.requires.rest.above_leaves, far))

pub even-requires : goal.even-requires
even-requires g c =
    let at = goal.at.even-requires g c in
    let back = near g at.After-insert_child (children g at.After-turned-near).0 in
    let both = ends g at.After-turned-first back in
    (search rules, (both.level ∙ sym both.next, subst (IsOrderedBy key_of_pair) (sym both.list) back.ordered))

pub built-requires : goal.built-requires
built-requires g c =
    let put = alone g (goal.at.built-requires g c).After-insert_child-in-None in
    (search rules, (search rules, put.0))

pub returns-in-Some-clause-side_joined : goal.returns-in-Some-clause-side_joined
returns-in-Some-clause-side_joined g c =
    let at = goal.at.returns-in-Some-clause-side_joined g c in
    let both = ends g at.After-turned-first (near g at.After-insert_child (children g at.After-turned-near).0) in
    rw c.in-Some.is (back_side_joined _ _ _ _ _ _ c.even.result.1 both c.even.ensures.nodes)

pub returns-in-None-clause-side_joined : goal.returns-in-None-clause-side_joined
returns-in-None-clause-side_joined g c =
    let put = alone g (goal.at.returns-in-None-clause-side_joined g c).After-insert_child-in-None in
    let inserted = c.insert_child-in-None.ensures in
    let node = c.built.ensures.seen in
    rw c.in-None.is (inserted_one c.args.inner c.insert_child-in-None.new.inner _ _ put.0 inserted.height inserted.len put.1 node)

pub returns-in-Some-clause-stock : goal.returns-in-Some-clause-stock
returns-in-Some-clause-stock g c = rw c.in-Some.is (omega (arith, c.give.ensures))

pub returns-in-Some-clause-steps : goal.returns-in-Some-clause-steps
returns-in-Some-clause-steps g c =
    let built = c.built-node.ensures.steps in
    rw c.in-Some.is (omega (arith, built, c.lone-last.ensures.steps, c.even.ensures.steps))

pub returns-in-None-clause-stock : goal.returns-in-None-clause-stock
returns-in-None-clause-stock g c = rw c.in-None.is (omega arith)

pub returns-in-None-clause-steps : goal.returns-in-None-clause-steps
returns-in-None-clause-steps g c = rw c.in-None.is (omega (arith, c.built.ensures.steps))
