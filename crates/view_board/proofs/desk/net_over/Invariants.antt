use Rattle.view_board.proofs.Common.{◌≡◌, ◌*◌, ◌^◌, drop, pos, neg_ℤ, ◌+ℤ◌, ◌≤ℤ◌, net_from}
use Rattle.view_board.proofs.desk.net_over.Given as goal

abbrev pub invariant-loop-slot : goal.invariant-loop-slot
invariant-loop-slot l = record {
  sum : l.sum +ℤ net_from (drop l.slot l.owned) l.slot l.numbers l.cell ≡ net_from l.owned 0 l.numbers l.cell;
  low : neg_ℤ (pos (l.slot * 2 ^ 64)) ≤ℤ l.sum;
  high : l.sum ≤ℤ pos (l.slot * 2 ^ 64);
}
