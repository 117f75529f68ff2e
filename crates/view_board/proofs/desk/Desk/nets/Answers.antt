use Rattle.view_board.proofs.Common.{◌≡◌, ℤ, ap, arith, length, pos, ints, blank_at, View, SLOTS, CELLS, DeskState}
use Rattle.view_board.proofs.NetLemmas.{net_from-next, net_from-end}
use Rattle.view_board.proofs.desk.Desk.nets.Goals as goal

pub loop-slot-init : goal.loop-slot-init
loop-slot-init c = record {
  sum = λ k below. let zero = blank_at {A = ℤ} CELLS k (pos 0) in omega (arith, ints, zero);
  small = record {
    low = λ k below. let zero = blank_at {A = ℤ} CELLS k (pos 0) in omega (arith, ints, zero);
    high = λ k below. let zero = blank_at {A = ℤ} CELLS k (pos 0) in omega (arith, ints, zero);
  };
}

pub loop-slot-preserved : goal.loop-slot-preserved
loop-slot-preserved c = record {
  sum = λ k below.
      let v : View = c.args.self.now.view in
      let slot = c.loop-slot.slot in
      let slots : length v.owned ≡ SLOTS = rw (← ap (λ (d : DeskState). d.view) c.self.view_is) c.self.invariant.wide.slots in
      let next = net_from-next v.owned slot slot v.numbers k (omega (arith, slots, c.loop-slot-test.true)) in
      let before = c.loop-slot.invariant.sum k below in
      let added = c.add_nets.ensures.added k below in
      omega (arith, ints, before, next, added);
  small = c.add_nets.ensures.sums;
}

pub returns-clause-value : goal.returns-clause-value
returns-clause-value c = λ k below.
    let v : View = c.args.self.now.view in
    let slots : length v.owned ≡ SLOTS = rw (← ap (λ (d : DeskState). d.view) c.self.view_is) c.self.invariant.wide.slots in
    let last = net_from-end v.owned c.loop-slot.slot c.loop-slot.slot v.numbers k (omega (arith, slots, c.loop-slot-test.false)) in
    let sum = c.loop-slot.invariant.sum k below in
    omega (arith, ints, sum, last)
