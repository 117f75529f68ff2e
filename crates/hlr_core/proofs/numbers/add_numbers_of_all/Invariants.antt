use Rattle.hlr_core.proofs.Common.{drop, flat_map}
use Rattle.hlr_core.proofs.NotedLemmas.{IsNoting}
use Rattle.hlr_core.proofs.numbers.add_numbers_of_all.Given as goal

abbrev pub invariant-loop-owner : goal.invariant-loop-owner
invariant-loop-owner g l =
    IsNoting (flat_map (λ owner. g.O.HasSubscribers.rows_of owner.value) (drop l.owner-index l.owners)) (flat_map (λ owner. g.O.HasSubscribers.rows_of owner.value) l.owners) l.fn.index l.index
