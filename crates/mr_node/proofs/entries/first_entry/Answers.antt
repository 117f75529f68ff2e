use Rattle.mr_node.proofs.Common.{rules, arith, ◌≡◌, ◌<◌, length, get_or, sym, subst}
use Rattle.mr_node.proofs.EntryLemmas.{leaf_rises}
use Rattle.mr_node.proofs.FirstLemmas.{first_none, first_here}
use Rattle.mr_node.proofs.entries.first_entry.Goals as goal

pub count_below-place-requires : goal.count_below-place-requires
count_below-place-requires g c = leaf_rises c.args.leaf.now c.requires

pub returns-then-place-len : goal.returns-then-place-len
returns-then-place-len g c = sym (first_none c.args.key c.count_below-place.result c.args.leaf.now c.requires (omega (arith, c.ranges.key)) c.count_below-place.ensures (omega (arith, c.len.ensures.value, c.if-place-len.true)))

pub returns : goal.returns
returns g c =
    let leaf = c.args.leaf.now in
    let r = c.index-as_slice-place.result in
    let read = subst (λ xs. r ≡ get_or xs c.count_below-place.result r) c.as_slice.ensures.value c.index-as_slice-place.is in
    let long : length leaf.keys ≡ 32 = search rules in
    let lt : c.count_below-place.result < length leaf.values.items = omega (arith, c.len.ensures.value, c.if-place-len.false) in
    sym (first_here c.args.key c.count_below-place.result r leaf c.requires (omega (arith, c.ranges.key)) c.count_below-place.ensures lt (omega (arith, lt, long, c.requires.values.fits)) read)
