use Rattle.hlr_owners.proofs.Common.{◌≡◌, ◌≤◌, ◌∷◌, vec_len, arc_value, AllByRecursion, vec_capacity, IsOfBoard, states_in, desks_in}
use Rattle.hlr_owners.proofs.OpenLemmas.{AreOpened, IsPartOwnerHome}
use Rattle.hlr_owners.proofs.ShareLemmas.{AreShared}
use Rattle.hlr_owners.proofs.owners.Owners.open.Given as goal

abbrev pub invariant-loop-region : goal.invariant-loop-region
invariant-loop-region l = record {
  room : 32 ≤ vec_capacity l.owners;
  long : vec_len l.owners ≡ l.region-index;
  home : AllByRecursion IsPartOwnerHome l.owners.items;
  opened : AreOpened l.width l.region-items (states_in l.owners.items) l.region-index;
  of_board : AllByRecursion (IsOfBoard (arc_value l.board)) (l.spare ∷ desks_in l.owners.items);
  shared : AreShared l.words l.spare (desks_in l.owners.items);
}
