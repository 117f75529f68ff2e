use Rattle.view_board.proofs.Common.{◌≡◌, ap, arith, View, DeskState}
use Rattle.view_board.proofs.ListLemmas.{set_within}
use Rattle.view_board.proofs.desk.Desk.least_slot.Goals as goal

pub returns-clause-none : goal.returns-clause-none
returns-clause-none c = λ e slot own.
    let is : c.self.inside.seat.me.0 ≡ c.args.self.now.view = ap (λ (d : DeskState). d.view) c.self.view_is in
    let v : View = c.args.self.now.view in
    let wide = rw is at c.self.invariant.wide.slots in
    let below = set_within v.owned slot own in
    c.loop-slot.invariant slot (omega (arith, c.loop-slot-test.false)) own
