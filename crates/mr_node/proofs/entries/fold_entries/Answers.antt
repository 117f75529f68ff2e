use Rattle.mr_node.proofs.Common.{arith, ◌≡◌, get_or, subst}
use Rattle.mr_node.proofs.FoldLemmas.{folds_entry, folds_all}
use Rattle.mr_node.proofs.entries.fold_entries.Goals as goal

pub loop-place-preserved : goal.loop-place-preserved
loop-place-preserved g c =
    let r = c.index-as_slice-place.result in
    folds_entry (λ a k r b. goal.F-post g c.args.f.now a k r b) c.args.init c.loop-place.folded _ c.loop-place.place _ c.args.leaf.now c.requires.leaf
    (omega (arith, c.len-place-end.ensures.value, c.loop-place-test.true)) (subst (λ xs. r ≡ get_or xs c.loop-place.place r) c.as_slice.ensures.value c.index-as_slice-place.is) c.loop-place.invariant c.f-folded.ensures

pub returns : goal.returns
returns g c =
    folds_all (λ a k r b. goal.F-post g c.args.f.now a k r b) c.args.init c.loop-place.folded c.loop-place.place c.args.leaf.now c.requires.leaf (omega (arith, c.len-place-end.ensures.value, c.loop-place-test.false)) c.loop-place.invariant
