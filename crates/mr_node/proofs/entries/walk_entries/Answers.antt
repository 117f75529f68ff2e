use Rattle.mr_node.proofs.Common.{arith, ◌≡◌, get_or, refl, subst}
use Rattle.mr_node.proofs.FoldLemmas.{folds_entry, folds_all}
use Rattle.mr_node.proofs.entries.walk_entries.Goals as goal

pub loop-place-preserved : goal.loop-place-preserved
loop-place-preserved g c =
    let r = c.index-as_slice-place.result in
    folds_entry _ c.args.so_far.now c.loop-place.so_far _ c.loop-place.place _ c.args.leaf.now c.requires.leaf
    (omega (arith, c.len-place-end.ensures.value, c.loop-place-test.true)) (subst (λ xs. r ≡ get_or xs c.loop-place.place r) c.as_slice.ensures.value c.index-as_slice-place.is) c.loop-place.invariant (_, _, refl, c.f.ensures, refl)

pub returns : goal.returns
returns g c = folds_all _ c.args.so_far.now c.loop-place.so_far c.loop-place.place c.args.leaf.now c.requires.leaf (omega (arith, c.len-place-end.ensures.value, c.loop-place-test.false)) c.loop-place.invariant
