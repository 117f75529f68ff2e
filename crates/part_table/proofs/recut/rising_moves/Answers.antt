-- The bounds are looked at from the last down.
use Rattle.part_table.proofs.Common.{◌≡◌, ◌∙◌, sym, ◌-◌, arith}
use Rattle.part_table.proofs.PlaceLemmas.{blank}
use Rattle.part_table.proofs.MoveLemmas.{rising_last, one_rises, one_stays, rising_room, bound_fits}
use Rattle.part_table.proofs.recut.rising_moves.Goals as goal

pub loop-i-init : goal.loop-i-init
loop-i-init c = record {
  so_far = c.new-moves.ensures ∙ sym (rising_last c.args.regions.now c.args.bounds.now blank c.requires.count);
  from = omega arith;
}

pub overflow_cast-to : goal.overflow_cast-to
overflow_cast-to c =
    let fits = bound_fits c.args.regions.now c.args.bounds.now blank c.requires.count (c.loop-i.i - 1 - 1) (omega arith) c.requires.rising in
    omega (arith, fits)

pub push_move-requires : goal.push_move-requires
push_move-requires c =
    let room = rising_room c.args.regions.now c.args.bounds.now blank c.requires.count c.loop-i.i c.loop-i.moves.items c.loop-i-test.true c.loop-i.auto.i c.requires.few c.loop-i.invariant.so_far in
    record { bound = omega arith; room = room }

pub loop-i-preserved-then-from-to : goal.loop-i-preserved-then-from-to
loop-i-preserved-then-from-to c = record {
  so_far = c.push_move.ensures ∙ one_rises c.args.regions.now c.args.bounds.now blank c.requires.count c.loop-i.i c.loop-i.moves.items c.loop-i-test.true c.loop-i.auto.i c.if-from-to.true c.loop-i.invariant.so_far;
  from = omega arith;
}

pub loop-i-preserved : goal.loop-i-preserved
loop-i-preserved c = record {
  so_far = one_stays c.args.regions.now c.args.bounds.now blank c.requires.count c.loop-i.i c.loop-i.moves.items c.loop-i-test.true c.loop-i.auto.i c.if-from-to.false c.loop-i.invariant.so_far;
  from = omega arith;
}

pub returns : goal.returns
returns c =
    let first : c.loop-i.i ≡ 1 = omega (arith, c.loop-i.invariant.from) in
    rw first at c.loop-i.invariant.so_far
