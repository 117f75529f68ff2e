use Rattle.hlr_owners.proofs.Common.{drop, IsMovedAlone, store_in}
use Rattle.hlr_owners.proofs.RecutLemmas.{IsMoving}
use Rattle.hlr_owners.proofs.owners.Owners.recut_to.Given as goal

abbrev pub invariant-loop-bound_move : goal.invariant-loop-bound_move
invariant-loop-bound_move l =
    IsMoving l.bounds l.bound_move-items (drop l.bound_move-index l.bound_move-items) (store_in l.initial.self) (store_in l.self) × IsMovedAlone l.initial.self l.self
