use Rattle.view_board.proofs.Common.{get_or, pos, ◌+ℤ◌, slot_net}
use Rattle.view_board.proofs.FillLemmas.{IsFilledTo}
use Rattle.view_board.proofs.desk.add_small_nets.Given as goal

abbrev pub invariant-loop-cell : goal.invariant-loop-cell
invariant-loop-cell l = IsFilledTo (pos 0) (λ c. get_or l.initial.sums c (pos 0) +ℤ slot_net l.numbers c l.slot) l.initial.sums l.sums l.cell
