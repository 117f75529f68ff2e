use Rattle.holding.proofs.Common.{◌∙◌, arith, w64, w128, FitsSigned, ints, to_z-of_z, length-set, net_of}
use Rattle.holding.proofs.HeldLemmas.{one_told}
use Rattle.holding.proofs.holding.pending_of.Goals as goal

pub loop-cell-preserved : goal.loop-cell-preserved
loop-cell-preserved c =
    let net = net_of c.args.desk.now.view c.loop-cell.cell in
    let told = c.nets-nets.ensures.value c.loop-cell.cell c.loop-cell-test.true in
    let small = c.requires.small c.loop-cell.cell c.loop-cell-test.true in
    let few = c.requires.few c.loop-cell.cell c.loop-cell-test.true in
    let wide : FitsSigned w128 net = omega (arith, ints) in
    let made = rw (c.from.ensures, told, to_z-of_z w128 net wide, c.get.ensures) at c.difference.ensures in
    let fits : FitsSigned w64 c.difference.result = omega (arith, ints) in
    record {
      wide = length-set _ _ _ ∙ c.loop-cell.invariant.wide;
      told = one_told _ _ c.loop-cell.cell _ _ c.loop-cell.invariant.wide c.loop-cell-test.true c.from-in-loop-cell.ensures (to_z-of_z w64 c.difference.result fits ∙ made) c.loop-cell.invariant.told;
    }
