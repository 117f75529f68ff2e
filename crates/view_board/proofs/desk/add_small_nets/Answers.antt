use Rattle.view_board.proofs.Common.{◌≡◌, ◌∙◌, ap, arith, to_z, of_z, get_or, w64, ℤ, ◌+ℤ◌, pos, w128, ints, to_z-of_z}
use Rattle.view_board.proofs.FillLemmas.{one_filled}
use Rattle.view_board.proofs.desk.add_small_nets.Goals as goal

pub loop-cell-preserved : goal.loop-cell-preserved
loop-cell-preserved c =
    let cell = c.loop-cell.cell in
    let before = c.loop-cell.invariant in
    let own = c.net_in.ensures.value in
    let same = before.ahead cell (omega arith) in
    let sums = c.requires.sums cell (omega arith) in
    let small = c.requires.small cell (omega arith) in
    let start = get_or c.args.sums.now cell (pos 0) in
    let net = c.net_in.result in
    let first = to_z-of_z w64 start (omega (arith, ints, sums)) in
    let wide = to_z-of_z w128 net (rw own (omega (arith, ints, small))) in
    let second = to_z-of_z w64 net (rw own (omega (arith, ints, small))) in
    let sum : to_z w64 (of_z w64 (to_z w64 (of_z w64 start) +ℤ to_z w64 (of_z w64 net))) ≡ start +ℤ net =
    rw (first, second) (to_z-of_z w64 _ (rw own (omega (arith, ints, sums, small)))) in
    rw c.from.ensures (one_filled _ _ _ _ cell _ before (omega arith) (rw (same, wide) (sum ∙ ap (λ (z : ℤ). start +ℤ z) own)))
