use Rattle.view_board.proofs.Common.{◌∙◌, sym, ap, refl, arith, DeskState}
use Rattle.view_board.proofs.LookLemmas.{all_looked}
use Rattle.view_board.proofs.StepLemmas.{looks}
use Rattle.view_board.proofs.NetLemmas.{own_within}
use Rattle.view_board.proofs.board.Board.look_into.Goals as goal

pub load-requires : goal.load-requires
load-requires c =
    let board = ap (λ (d : DeskState). d.board) c.desk.view_is ∙ (c.requires ∙ sym c.self.view_is) in
    (c.loop-word.invariant.table ∙ board, rw c.self.invariant.0 c.loop-word-test.true, looks _ _ _ _)

pub returns-clause-seen : goal.returns-clause-seen
returns-clause-seen c =
    let loop = c.loop-word.invariant in
    let before = c.desk.inside.seat.me.0 in
    let wide = c.desk.invariant.wide in
    let all = all_looked before c.loop-word.desk-inside.seat.me.0 c.loop-word.sight.words c.loop-word.word loop.so_far (omega arith) wide.seen wide.numbers (own_within before wide) in
    rw (← c.desk.view_is) (rw (loop.table, all.1) refl)
