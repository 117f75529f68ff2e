use Rattle.mr_node.proofs.Common.{rules, arith, ◌≡◌, length}
use Rattle.mr_node.proofs.EntryLemmas.{leaf_rises, there_at, free_at}
use Rattle.mr_node.proofs.entries.search.Goals as goal

pub count_below-place-requires : goal.count_below-place-requires
count_below-place-requires g c = leaf_rises c.args.leaf.now c.requires

pub returns-then-is_at : goal.returns-then-is_at
returns-then-is_at g c =
    let leaf = c.args.leaf.now in
    let long : length leaf.keys ≡ 32 = search rules in
    there_at c.args.key c.count_below-place.result leaf c.requires long (c.is_at.ensures.there c.if-is_at.true)

pub returns : goal.returns
returns g c =
    let leaf = c.args.leaf.now in
    let long : length leaf.keys ≡ 32 = search rules in
    free_at c.args.key c.count_below-place.result leaf c.requires (omega (arith, c.ranges.key)) c.count_below-place.ensures long (c.is_at.ensures.other c.if-is_at.false)
