use Rattle.view_board.proofs.Common.{◌≡◌, ◌<◌, ap, refl, arith, length, View, SLOTS, WORDS, DeskState, Owns}
use Rattle.view_board.proofs.LevelLemmas.{none_level, one_level, all_level}
use Rattle.view_board.proofs.ListLemmas.{set_within}
use Rattle.view_board.proofs.board.Board.take_back.Goals as goal

pub loop-cell-init : goal.loop-cell-init
loop-cell-init c =
    let is : c.desk.inside.seat.me.0 ≡ c.args.desk.now.view = ap (λ (d : DeskState). d.view) c.desk.view_is in
    let wide : length c.args.desk.now.view.numbers ≡ WORDS = rw (← is) c.desk.invariant.wide.numbers in
    record { board = refl; so_far = none_level _ _ wide }

pub loop-cell-preserved : goal.loop-cell-preserved
loop-cell-preserved c =
    let v : View = c.desk.inside.seat.me.0 in
    let is : v ≡ c.args.desk.now.view = ap (λ (d : DeskState). d.view) c.desk.view_is in
    let own : Owns v c.args.slot = rw is c.requires.own in
    let below : c.args.slot < SLOTS = omega (arith, set_within v.owned c.args.slot own, c.desk.invariant.wide.slots) in
    rw c.level.ensures (record {
      board = c.loop-cell.invariant.board;
      so_far = one_level _ _ _ _ below c.loop-cell-test.true c.loop-cell.invariant.so_far;
    })

pub returns-clause-back : goal.returns-clause-back
returns-clause-back c =
    let loop = c.loop-cell.invariant in
    let level = all_level _ _ _ _ loop.so_far c.loop-cell-test.false (omega arith) in
    rw (loop.board, level) refl
