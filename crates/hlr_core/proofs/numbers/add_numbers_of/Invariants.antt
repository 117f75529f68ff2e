use Rattle.hlr_core.proofs.Common.{length}
use Rattle.hlr_core.proofs.NotedLemmas.{IsNoting, rows_from}
use Rattle.hlr_core.proofs.numbers.add_numbers_of.Given as goal

abbrev pub invariant-loop-row : goal.invariant-loop-row
invariant-loop-row g l = IsNoting (rows_from l.from (g.O.HasSubscribers.rows_of l.owner)) (g.O.HasSubscribers.rows_of l.owner) l.fn.index l.index

abbrev pub decreases-loop-row : goal.decreases-loop-row
decreases-loop-row g l = length (rows_from l.from (g.O.HasSubscribers.rows_of l.owner))
