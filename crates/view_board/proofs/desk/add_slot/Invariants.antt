use Rattle.view_board.proofs.Common.{ℕ, ◌<◌, ◌^◌, get_or, pos, neg_ℤ, ◌+ℤ◌, ◌≤ℤ◌, slot_net}
use Rattle.view_board.proofs.FillLemmas.{IsFilledTo}
use Rattle.view_board.proofs.desk.add_slot.Given as goal

abbrev pub invariant-loop-cell : goal.invariant-loop-cell
invariant-loop-cell l = record {
  sums : IsFilledTo (pos 0) (λ c. get_or l.initial.sums c (pos 0) +ℤ slot_net l.numbers c l.slot) l.initial.sums l.sums l.cell;
  low : (c : ℕ) → c < l.cell → neg_ℤ (pos (2 ^ 64)) ≤ℤ slot_net l.numbers c l.slot;
  high : (c : ℕ) → c < l.cell → slot_net l.numbers c l.slot ≤ℤ pos (2 ^ 64);
}
