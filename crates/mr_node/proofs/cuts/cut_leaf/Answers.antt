use Rattle.mr_node.proofs.Common.{rules, arith, ◌≡◌, ◌+◌, ◌≤◌, ap, [], length, pairs_of}
use Rattle.mr_node.proofs.EntryLemmas.{leaf_rises, leaf_length, stop_fits}
use Rattle.mr_node.proofs.EvenLemmas.{blank_leaf, AreMovedLeaves}
use Rattle.mr_node.proofs.PartLemmas.{cut_fits, AreCutLeaves, leaf_cut}
use Rattle.mr_node.proofs.cuts.cut_leaf.Goals.{After-count_below-place, After-share}
use Rattle.mr_node.proofs.cuts.cut_leaf.Goals as goal

-- the new leaf has no entry yet
none : (g : _) (c : After-count_below-place g) → pairs_of c.empty_leaf-high.result ≡ []
none g c = ap (λ s. s.rows) (blank_leaf c.empty_leaf-high.result c.empty_leaf-high.ensures.leaf c.empty_leaf-high.ensures.none)

fits : (g : _) (c : After-count_below-place g) → (c.count_below-place.result ≤ length (pairs_of c.args.leaf.now) + length (pairs_of c.empty_leaf-high.result)) × (length (pairs_of c.args.leaf.now) + length (pairs_of c.empty_leaf-high.result) ≤ c.count_below-place.result + 32)
fits g c =
    let leaf = c.args.leaf.now in
    let stop = stop_fits c.args.key c.count_below-place.result leaf c.requires (omega (arith, c.ranges.key.fits)) c.count_below-place.ensures in
    cut_fits _ _ _ _ (leaf_length leaf c.requires) (none g c) stop c.requires.values.fits

-- the two leaves in the end
halves : (g : _) (c : After-share g) → pairs_of c.empty_leaf-high.result ≡ [] → AreCutLeaves c.args.key c.args.leaf.now c.share.new.left c.share.new.right
halves g c empty =
    let leaf = c.args.leaf.now in
    let wide : length leaf.keys ≡ 32 = search rules in
    let long : length leaf.values.items ≤ length leaf.keys = omega (arith, wide, c.requires.values.fits) in
    let moved : AreMovedLeaves leaf c.empty_leaf-high.result c.share.new.left c.share.new.right = record { left = c.share.ensures.left_entries; right = c.share.ensures.right_entries; list = c.share.ensures.list } in
    leaf_cut c.args.key c.count_below-place.result leaf c.empty_leaf-high.result _ _ c.requires c.empty_leaf-high.ensures.leaf empty (omega (arith, c.ranges.key.fits)) long c.count_below-place.ensures moved c.share.ensures.len

pub count_below-place-requires : goal.count_below-place-requires
count_below-place-requires g c = leaf_rises c.args.leaf.now c.requires

pub share-requires-clause-enough : goal.share-requires-clause-enough
share-requires-clause-enough g c = (fits g (goal.at.share-requires-clause-enough g c).After-count_below-place).0

pub share-requires-clause-room : goal.share-requires-clause-room
share-requires-clause-room g c = (fits g (goal.at.share-requires-clause-room g c).After-count_below-place).1

pub returns-clause-low : goal.returns-clause-low
returns-clause-low g c =
    let at = goal.at.returns-clause-low g c in
    (halves g at.After-share (none g at.After-count_below-place)).low

pub returns-clause-high : goal.returns-clause-high
returns-clause-high g c =
    let at = goal.at.returns-clause-high g c in
    (halves g at.After-share (none g at.After-count_below-place)).high

pub returns-clause-rows : goal.returns-clause-rows
returns-clause-rows g c =
    let at = goal.at.returns-clause-rows g c in
    (halves g at.After-share (none g at.After-count_below-place)).rows

pub returns-clause-below : goal.returns-clause-below
returns-clause-below g c =
    let at = goal.at.returns-clause-below g c in
    (halves g at.After-share (none g at.After-count_below-place)).below

pub returns-clause-from : goal.returns-clause-from
returns-clause-from g c =
    let at = goal.at.returns-clause-from g c in
    (halves g at.After-share (none g at.After-count_below-place)).from
