use Rattle.view_board.proofs.Common.{◌≡◌, ℕ, ◌<◌, drop, get_or, pos, ◌+ℤ◌, CELLS, AreWithin, net_from, net_of}
use Rattle.view_board.proofs.desk.Desk.nets.Given as goal

abbrev pub invariant-loop-slot : goal.invariant-loop-slot
invariant-loop-slot l = record {
  sum : (c : ℕ) → c < CELLS → get_or l.nets c (pos 0) +ℤ net_from (drop l.slot l.self.view.owned) l.slot l.self.view.numbers c ≡ net_of l.self.view c;
  small : AreWithin l.slot l.nets;
}
