use Rattle.hlr_workers.proofs.Common.{◌<◌, ℕ, get_or, CutMove, outs_in, AreBrought, NoneOut}
use Rattle.hlr_workers.proofs.EngineLemmas.{AreSidesHome}
use Rattle.hlr_workers.proofs.engine.bring_sides_home.Given as goal

abbrev pub invariant-loop-bound_move : goal.invariant-loop-bound_move
invariant-loop-bound_move g l = record {
  brought : AreBrought l.fn.workers l.fn.replies l.workers l.replies;
  home : (i : ℕ) (d : CutMove) → i < l.bound_move-index → AreSidesHome (outs_in l.workers.register.owners) (get_or l.bound_move-items i d);
  still : NoneOut l.fn.workers → NoneOut l.workers;
}
