use Rattle.holding.proofs.Common.{ℕ, ◌∙◌, arith, FitsSigned, w64, rules, pos, ◌+ℤ◌, w128, ints, to_z-of_z, length-set, net_of, delta_at, count_of}
use Rattle.holding.proofs.HeldLemmas.{pending_small, one_told}
use Rattle.holding.proofs.parting.Holding.pending_with.Goals as goal

pub raised-requires-clause-delta : goal.raised-requires-clause-delta
raised-requires-clause-delta c =
    let fits : FitsSigned w64 c.pending.result = search rules in
    rw (to_z-of_z w64 c.pending.result fits, c.pending.ensures) (pending_small c.args.self.now c.rules.ensures c.loop-cell.cell c.loop-cell-test.true)

pub raised-requires-clause-pending : goal.raised-requires-clause-pending
raised-requires-clause-pending c =
    let fits : FitsSigned w64 c.pending-in-loop-cell.result = search rules in
    rw (to_z-of_z w64 c.pending-in-loop-cell.result fits, c.pending-in-loop-cell.ensures) (pending_small c.args.other.now c.rules-2.ensures c.loop-cell.cell c.loop-cell-test.true)

pub loop-cell-preserved : goal.loop-cell-preserved
loop-cell-preserved c =
    let cell = c.loop-cell.cell in
    let net = c.nets-nets.ensures cell c.loop-cell-test.true in
    let small = c.rules-2.ensures.small cell c.loop-cell-test.true in
    let law = c.rules-2.ensures.law cell c.loop-cell-test.true in
    let wide : FitsSigned w128 (net_of c.args.other.now.desk.view cell) = omega (arith, ints) in
    let first : FitsSigned w64 c.pending.result = search rules in
    let second : FitsSigned w64 c.pending-in-loop-cell.result = search rules in
    let last : FitsSigned w64 c.raised.result = search rules in
    let made = rw (to_z-of_z w64 c.pending.result first, to_z-of_z w64 c.pending-in-loop-cell.result second, c.from.ensures, net, to_z-of_z w128 _ wide, c.pending.ensures, c.pending-in-loop-cell.ensures, law) at c.raised.ensures in
    record {
      wide = length-set _ _ _ ∙ c.loop-cell.invariant.wide;
      told = one_told (λ (k : ℕ). delta_at c.args.self.now.pending k +ℤ pos (count_of c.args.other.now.part k)) c.loop-cell.deltas cell _ _ c.loop-cell.invariant.wide c.loop-cell-test.true c.from-in-loop-cell.ensures (to_z-of_z w64 c.raised.result last ∙ made) c.loop-cell.invariant.told;
    }
