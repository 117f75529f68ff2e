use Rattle.mr_node.proofs.Common.{rules, arith, ◌≡◌, length, get_or, subst}
use Rattle.mr_node.proofs.EntryLemmas.{leaf_rises}
use Rattle.mr_node.proofs.PageLemmas.{page_started, page_more, page_room, page_ends}
use Rattle.mr_node.proofs.entries.page_entries.Goals as goal

pub count_below-stop-requires : goal.count_below-stop-requires
count_below-stop-requires g c = leaf_rises c.args.leaf.now c.requires.leaf

pub loop-place-init : goal.loop-place-init
loop-place-init g c = page_started c.args.leaf.now c.count_below-stop.result c.args.page.now.items c.requires.empty

pub push-requires : goal.push-requires
push-requires g c =
    (search rules, page_room c.args.leaf.now c.count_below-stop.result c.loop-place.place c.len-place-end.result c.loop-place.page.items c.requires.leaf c.loop-place-test.true c.len-place-end.ensures.value c.loop-place.invariant)

pub loop-place-preserved : goal.loop-place-preserved
loop-place-preserved g c =
    let r = c.index-as_slice-place.result in
    let more = page_more c.args.leaf.now c.count_below-stop.result c.loop-place.place r c.loop-place.page.items c.requires.leaf (omega (arith, c.len-place-end.ensures.value, c.loop-place-test.true))
    (subst (λ xs. r ≡ get_or xs c.loop-place.place r) c.as_slice.ensures.value c.index-as_slice-place.is) c.loop-place.invariant in
    rw c.push.ensures.items more

pub returns : goal.returns
returns g c =
    let leaf = c.args.leaf.now in
    let long : length leaf.keys ≡ 32 = search rules in
    page_ends leaf c.args.key c.count_below-stop.result c.loop-place.place c.loop-place.page.items c.requires.leaf (omega (arith, c.ranges.key)) (omega (arith, long, c.requires.leaf.values.fits)) c.count_below-stop.ensures (omega (arith, c.len-place-end.ensures.value, c.loop-place-test.false)) c.loop-place.invariant
