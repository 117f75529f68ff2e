use Rattle.view_board.proofs.Common.{◌≡◌, ◌∙◌, sym, ap, arith, Me, View, Owns, alone, without, NetAdds, DeskState}
use Rattle.view_board.proofs.SplitLemmas.{splits}
use Rattle.view_board.proofs.SumLemmas.{net_split}
use Rattle.view_board.proofs.board.Board.cut.Goals as goal

pub split_seat-seat-requires : goal.split_seat-seat-requires
split_seat-seat-requires g c =
    let is : c.desk.inside.seat.me.0 ≡ c.args.desk.now.view = ap (λ (d : DeskState). d.view) c.desk.view_is in
    let board = ap (λ (d : DeskState). d.board) c.desk.view_is ∙ (c.requires.board ∙ sym c.self.view_is) in
    let own : Owns c.desk.inside.seat.me.0 g.B.SlotChoice.slot = rw (is, c.requires.choice) c.requires.own in
    (board, rw c.self.invariant.0 (omega arith), splits _ _ _ own)

pub returns-clause-net : goal.returns-clause-net
returns-clause-net g c =
    let v : View = c.desk.inside.seat.me.0 in
    let is : v ≡ c.args.desk.now.view = ap (λ (d : DeskState). d.view) c.desk.view_is in
    let own : Owns v c.args.slot = rw is c.requires.own in
    let sum : NetAdds v (alone v c.args.slot) (without v c.args.slot) = net_split v c.args.slot c.desk.invariant.wide own in
    let left : c.split_seat-seat.new.seat.me.0 ≡ without v c.args.slot = ap (λ (m : Me (Unit {0}) View). m.0) c.split_seat-seat.ensures.2 ∙ ap (without v) c.requires.choice in
    let right : c.split_seat-seat.result.me.0 ≡ alone v c.args.slot = ap (λ (m : Me (Unit {0}) View). m.0) c.split_seat-seat.ensures.4 ∙ ap (alone v) c.requires.choice in
    rw (left, right, ← is) sum
