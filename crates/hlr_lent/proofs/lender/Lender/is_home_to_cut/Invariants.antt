use Rattle.hlr_lent.proofs.Common.{◌<◌, ℕ, get_or, CutMove, IsHomeToMove}
use Rattle.hlr_lent.proofs.lender.Lender.is_home_to_cut.Given as goal

abbrev pub invariant-loop-bound_move : goal.invariant-loop-bound_move
invariant-loop-bound_move l = (i : ℕ) (d : CutMove) → i < l.bound_move-index → IsHomeToMove l.self (get_or l.bound_move-items i d)
