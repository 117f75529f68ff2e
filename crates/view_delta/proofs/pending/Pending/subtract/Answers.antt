use Rattle.view_delta.proofs.Common.{get_or, ◌≡◌, arith, rules, FitsSigned, w64, pos, ◌-ℤ◌, ints, delta_at}
use Rattle.view_delta.proofs.SumLemmas.{one_moved}
use Rattle.view_delta.proofs.pending.Pending.subtract.Goals as goal

pub loop-cell-preserved : goal.loop-cell-preserved
loop-cell-preserved c =
    let ahead = c.loop-cell.invariant.ahead c.loop-cell.cell (omega arith) in
    let read : get_or c.loop-cell.self-inside.deltas c.from.result (pos 0) ≡ delta_at c.self.inside.deltas c.loop-cell.cell = rw c.from.ensures ahead in
    let fits : FitsSigned w64 (get_or c.loop-cell.self-inside.deltas c.from.result (pos 0)) = search rules in
    let known : FitsSigned w64 (delta_at c.self.inside.deltas c.loop-cell.cell -ℤ pos (get_or c.args.counts.now c.loop-cell.cell 0)) = rw c.self.view_is (c.requires c.loop-cell.cell c.loop-cell-test.true) in
    let got = c.get.ensures in
    let made = c.difference.ensures in
    one_moved _ _ _ c.loop-cell.cell c.from-in-loop-cell.result _ c.loop-cell-test.true c.from-in-loop-cell.ensures (omega (arith, ints)) c.loop-cell.invariant
