use Rattle.hlr_owners.proofs.Common.{◌≡◌, take, true, list_all, is_home}
use Rattle.hlr_owners.proofs.homes.are_home.Given as goal

abbrev pub invariant-loop-owner : goal.invariant-loop-owner
invariant-loop-owner l = list_all is_home (take l.owner-index l.owners) ≡ true
