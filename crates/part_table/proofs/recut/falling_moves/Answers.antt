-- The bounds are looked at from the first up.
use Rattle.part_table.proofs.Common.{◌-◌, refl, ◌≤◌, length, arith, bounds_of, falling_moves}
use Rattle.part_table.proofs.PlaceLemmas.{blank}
use Rattle.part_table.proofs.MoveLemmas.{bound_fits, falling_last, falling_room, length_bounds, length_moves, one_falls, one_holds}
use Rattle.part_table.proofs.recut.falling_moves.Goals as goal
use Rattle.part_table.proofs.recut.falling_moves.Goals.{then-to-from, else-to-from}

pub loop-i-init : goal.loop-i-init
loop-i-init c = rw c.new-moves.ensures refl

pub overflow_cast-to : goal.overflow_cast-to
overflow_cast-to c =
    let fits = bound_fits c.args.regions.now c.args.bounds.now blank c.requires.count (c.loop-i.i - 1) (omega arith) c.requires.rising in
    omega (arith, fits)

pub push_move-requires : goal.push_move-requires
push_move-requires c =
    let falling = falling_moves 1 (bounds_of c.args.regions.now) c.args.bounds.now in
    let all = length_moves 1 (bounds_of c.args.regions.now) c.args.bounds.now in
    let same = length_bounds c.args.regions.now (length c.args.bounds.now) c.requires.count in
    let few : length falling ≤ 15 = omega (arith, all, same, c.requires.few) in
    let room = falling_room c.args.regions.now c.args.bounds.now blank c.requires.count c.loop-i.i c.loop-i.moves.items
    falling c.loop-i.auto.i c.loop-i-test.true c.if-to-from.true c.loop-i.invariant few in
    record { bound = omega arith; room = room }

pub loop-i-preserved : goal.loop-i-preserved
loop-i-preserved c =
    elim c.if-to-from.branch [
      | then-to-from w ↦
          rw (w.moves-is, w.push_move.ensures)
          (one_falls c.args.regions.now c.args.bounds.now blank c.requires.count c.loop-i.i c.loop-i.moves.items _
          c.loop-i.auto.i c.loop-i-test.true w.if-to-from.true c.loop-i.invariant)
      | else-to-from w ↦
          rw w.moves-is
          (one_holds c.args.regions.now c.args.bounds.now blank c.requires.count c.loop-i.i c.loop-i.moves.items _
          c.loop-i.auto.i c.loop-i-test.true w.if-to-from.false c.loop-i.invariant)
    ]

pub returns : goal.returns
returns c =
    falling_last c.args.regions.now c.args.bounds.now blank c.requires.count c.loop-i.i c.loop-i.moves.items _
    c.loop-i-test.false c.loop-i.invariant
