use Rattle.holding.proofs.Common.{◌∙◌}
use Rattle.holding.proofs.FillLemmas.{box_same, counts_list, are_counts}
use Rattle.holding.proofs.parting.Holding.dissolve.Goals as goal

pub returns-in-Err-clause-refused : goal.returns-in-Err-clause-refused
returns-in-Err-clause-refused c = (box_same c.args.other _ (c.in-Err.ensures.refused.2 ∙ c.deref_mut.ensures.value), c.in-Err.ensures.refused.1)

pub returns-clause-merged : goal.returns-clause-merged
returns-clause-merged c =
    let was = c.deref_mut.ensures.value in
    let done = c.in_default.ensures in
    let counts = counts_list c.deref_mut.result.now.part in
    let counted = are_counts c.deref_mut.result.now.part done.other.rules in
    rw (← was, c.let_go.ensures) (record { counts = counts; counted = counted; taken = done.taken counts counted; back = done.back; idle = done.idle })
