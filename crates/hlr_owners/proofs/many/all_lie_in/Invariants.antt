use Rattle.hlr_owners.proofs.Common.{◌≡◌, take, true, list_all, lies_in}
use Rattle.hlr_owners.proofs.many.all_lie_in.Given as goal

abbrev pub invariant-loop-s_id : goal.invariant-loop-s_id
invariant-loop-s_id l = list_all (λ s_id. lies_in s_id l.region) (take l.s_id-index l.s_ids) ≡ true
