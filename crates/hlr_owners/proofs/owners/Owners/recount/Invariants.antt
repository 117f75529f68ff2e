use Rattle.hlr_owners.proofs.Common.{states_in, get_or, pos}
use Rattle.hlr_owners.proofs.SumLemmas.{AreAdded, counts}
use Rattle.hlr_owners.proofs.owners.Owners.recount.Given as goal

abbrev pub invariant-loop-owner : goal.invariant-loop-owner
invariant-loop-owner l = AreAdded counts 0 (states_in l.owner-items) (λ c. pos (get_or l.initial.counts c 0)) (λ c. pos (get_or l.counts c 0)) l.owner-index
