use Rattle.mr_node.proofs.Common.{arith, sym, ap, subst, ◌∙◌, pairs_of, IsNode, IsInner, seen}
use Rattle.mr_node.proofs.PlaceLemmas.{packed_fits, got_used, never_none}
use Rattle.mr_node.proofs.FoldLemmas.{folds_child, folds_children, folds_same}
use Rattle.mr_node.proofs.node.Node.+walk.Goals as goal

pub unreachable-requires : goal.unreachable-requires
unreachable-requires g t c =
    let b = c.in-Inner.inner in
    let whole : IsInner b = subst IsNode c.in-Inner.is c.self.invariant in
    never_none b.len c.loop-place.place c.index-inner-place.result b.children whole.entries.packed c.loop-place-test.true c.in-None.is

pub returns-in-Leaf : goal.returns-in-Leaf
returns-in-Leaf g t c = folds_same _ c.args.so_far.now _ (pairs_of c.in-Leaf.leaf) c.args.self.now.rows (ap (λ s. s.rows) (sym (ap seen c.in-Leaf.is) ∙ c.self.view_is)) c.walk_entries.ensures

pub loop-place-preserved : goal.loop-place-preserved
loop-place-preserved g t c =
    let b = c.in-Inner.inner in
    let whole : IsInner b = subst IsNode c.in-Inner.is c.self.invariant in
    let got = got_used b.len c.loop-place.place c.index-inner-place.result c.in-Some.child b.children whole.entries.packed c.loop-place-test.true c.in-Some.is in
    folds_child _ c.args.so_far.now c.loop-place.so_far _ c.loop-place.place b c.in-Some.child c.deref.result.now.rows whole got (ap (λ s. s.rows) c.deref.ensures) c.loop-place.invariant c.walk.ensures

pub returns-after-loop-place : goal.returns-after-loop-place
returns-after-loop-place g t c =
    let b = c.in-Inner.inner in
    let whole : IsInner b = subst IsNode c.in-Inner.is c.self.invariant in
    folds_children _ c.args.so_far.now c.loop-place.so_far c.loop-place.place b c.args.self.now.rows whole c.loop-place-test.false (ap (λ s. s.rows) (sym (ap seen c.in-Inner.is) ∙ c.self.view_is)) c.loop-place.invariant

pub listed : goal.listed
listed g t c = omega (arith, c.loop-place-test.true, packed_fits c.in-Inner.inner.len c.in-Inner.inner.children (subst IsNode c.in-Inner.is c.self.invariant).entries.packed)

pub bounds-inner-place : goal.bounds-inner-place
bounds-inner-place g t c = omega (arith, c.loop-place-test.true, (subst IsNode c.in-Inner.is c.self.invariant).entries.fits)

pub offset_bounds-inner-place : goal.offset_bounds-inner-place
offset_bounds-inner-place g t c = omega (arith, c.loop-place-test.true, (subst IsNode c.in-Inner.is c.self.invariant).entries.fits)
