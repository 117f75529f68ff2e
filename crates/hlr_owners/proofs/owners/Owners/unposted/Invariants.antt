use Rattle.hlr_owners.proofs.Common.{states_in, delta_at}
use Rattle.hlr_owners.proofs.SumLemmas.{AreAdded, deltas}
use Rattle.hlr_owners.proofs.owners.Owners.unposted.Given as goal

abbrev pub invariant-loop-owner : goal.invariant-loop-owner
invariant-loop-owner l = AreAdded deltas 0 (states_in l.owner-items) (delta_at l.initial.sums) (delta_at l.sums) l.owner-index
