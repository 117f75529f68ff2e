use Rattle.view_board.proofs.Common.{◌≡◌, ap, arith, inl, inr, to_z, of_z, get_or, ℤ, ◌+ℤ◌, pos, w128, cases_eq, ints, to_z-of_z}
use Rattle.view_board.proofs.FillLemmas.{one_filled}
use Rattle.view_board.proofs.desk.add_slot.Goals as goal

pub loop-cell-preserved : goal.loop-cell-preserved
loop-cell-preserved c =
    let cell = c.loop-cell.cell in
    let before = c.loop-cell.invariant in
    let own = c.net_in.ensures in
    let same = before.sums.ahead cell (omega arith) in
    let low = c.requires.sums.low cell (omega arith) in
    let high = c.requires.sums.high cell (omega arith) in
    let slot = c.requires.slot in
    let start = get_or c.args.sums.now cell (pos 0) in
    let net = c.net_in.result in
    let first = to_z-of_z w128 start (omega (arith, ints, low, high)) in
    let second = to_z-of_z w128 net (omega (arith, ints, own.low, own.high)) in
    let sum : to_z w128 (of_z w128 (to_z w128 (of_z w128 start) +ℤ to_z w128 (of_z w128 net))) ≡ start +ℤ net =
    rw (first, second) (to_z-of_z w128 _ (omega (arith, ints, low, high, own.low, own.high))) in
    record {
      sums = rw c.from.ensures (one_filled _ _ _ _ cell _ before.sums (omega arith) (rw (same, sum) (ap (λ (z : ℤ). start +ℤ z) own.value)));
      low = λ k near. elim (cases_eq k cell) [
        | inl is ↦ rw (is, ← own.value) own.low
        | inr other ↦ before.low k (omega arith)
      ];
      high = λ k near. elim (cases_eq k cell) [
        | inl is ↦ rw (is, ← own.value) own.high
        | inr other ↦ before.high k (omega arith)
      ];
    }

pub returns-clause-sums : goal.returns-clause-sums
returns-clause-sums c = record {
  low = λ k below.
      let at = c.loop-cell.invariant.sums.here k (omega arith) in
      let before = c.requires.sums.low k below in
      let own = c.loop-cell.invariant.low k (omega arith) in
      rw at (omega (arith, ints, before, own));
  high = λ k below.
      let at = c.loop-cell.invariant.sums.here k (omega arith) in
      let before = c.requires.sums.high k below in
      let own = c.loop-cell.invariant.high k (omega arith) in
      rw at (omega (arith, ints, before, own));
}
