use Rattle.part_table.proofs.Common.{◌≡◌, ◌∙◌, arith, refl, sym, true, ◌==◌, nat_tests, END}
use Rattle.part_table.proofs.NumberLemmas.{length_regions}
use Rattle.part_table.proofs.NumberedLemmas.{are_regions, one_numbered, one_follows, one_part, one_piece, all_numbered, all_follow}
use Rattle.part_table.proofs.regions.Regions.over.Goals as goal

pub loop-range-init : goal.loop-range-init
loop-range-init c = rw c.new-list.ensures (record { list = refl; long = refl; follow = refl; parts = omega arith; pieces = refl })

pub push-requires : goal.push-requires
push-requires c =
    let all = length_regions c.args.ranges.now in
    (omega arith, omega (arith, all, c.requires.parts, c.requires.pieces, c.loop-range.invariant.long))

pub loop-range-preserved : goal.loop-range-preserved
loop-range-preserved c =
    let i = c.loop-range.range-index in
    let next = c.loop-range.next in
    let so_far = c.loop-range.invariant in
    let below = c.loop-range-test.true in
    rw (c.place-place.ensures.part, c.place-place.ensures.piece) (record {
      list = rw (c.push.ensures.items, c.place-place.ensures.place) (one_numbered _ i next.part next.piece c.loop-range.from _ below _ _ so_far.list);
      long = omega (arith, c.push.ensures.len, so_far.long);
      follow = one_follows _ i next.part next.piece c.loop-range.from _ below _ so_far.follow c.if-range-from.false c.if-range.false;
      parts = one_part _ i next.part next.piece c.loop-range.from _ below _ so_far.parts;
      pieces = one_piece _ i next.part next.piece c.loop-range.from _ below _ so_far.pieces;
    })

pub invariant_of-result : goal.invariant_of-result
invariant_of-result c =
    let so_far = c.loop-range.invariant in
    let ends : (c.loop-range.from == END) ≡ true = grind (arith, nat_tests, c.if-from-ne-END.false) in
    let follow = sym (all_follow _ _ _ c.loop-range-test.false so_far.follow) ∙ ends in
    rw (all_numbered _ _ _ _ _ c.loop-range-test.false so_far.list) (are_regions _ follow c.requires.some c.requires.parts c.requires.pieces)

pub returns : goal.returns
returns c =
    let so_far = c.loop-range.invariant in
    let ends : (c.loop-range.from == END) ≡ true = grind (arith, nat_tests, c.if-from-ne-END.false) in
    let follow = sym (all_follow _ _ _ c.loop-range-test.false so_far.follow) ∙ ends in
    rw (follow, all_numbered _ _ _ _ _ c.loop-range-test.false so_far.list) refl
