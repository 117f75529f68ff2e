use Rattle.part_table.proofs.Common.{◌∙◌, sym, arith}
use Rattle.part_table.proofs.DissolvingLemmas.{dissolve_behind_part, dissolve_behind_piece, dissolve_first, dissolve_nowhere, not_first}
use Rattle.part_table.proofs.SplitLemmas.{own_below}
use Rattle.part_table.proofs.regions.Regions.dissolving.Goals as goal
use Rattle.part_table.proofs.regions.Regions.dissolving.Goals.{then-i-eq0-via-then-i-eq0, then-i-eq0-via-else-i-eq0+then-not-is_of_part}

pub returns-in_default-clause-refused : goal.returns-in_default-clause-refused
returns-in_default-clause-refused c = rw (← c.list-regions.ensures.value) (dissolve_nowhere c.args.p _ (sym c.part_at.ensures ∙ c.in_default.is))

pub returns-then-i-eq0-clause-refused : goal.returns-then-i-eq0-clause-refused
returns-then-i-eq0-clause-refused c =
    let are = c.list-regions.ensures.regions in
    let index = sym c.part_at.ensures ∙ c.in-Some.is in
    rw (← c.list-regions.ensures.value) (elim c.then-i-eq0.branch [
      | then-i-eq0-via-then-i-eq0 w ↦ dissolve_first c.args.p c.list-regions.result.now are c.in-Some.i index w.if-i-eq0.true
      | then-i-eq0-via-else-i-eq0+then-not-is_of_part w ↦
          dissolve_behind_piece c.args.p c.list-regions.result.now are c.in-Some.i index (sym w.is_of_part.ensures ∙ w.if-not-is_of_part.true)
    ])

pub overflow_cast-result : goal.overflow_cast-result
overflow_cast-result c = omega (arith, own_below c.args.p c.list-regions.result.now c.list-regions.ensures.regions c.in-Some.i (sym c.part_at.ensures ∙ c.in-Some.is))

pub overflow_sub-result : goal.overflow_sub-result
overflow_sub-result c =
    not_first c.args.p c.list-regions.result.now c.list-regions.ensures.regions c.in-Some.i (sym c.part_at.ensures ∙ c.in-Some.is) c.if-i-eq0.false (sym c.is_of_part.ensures ∙ c.if-not-is_of_part.false)

pub returns-clause-answer : goal.returns-clause-answer
returns-clause-answer c =
    rw (← c.list-regions.ensures.value)
    (dissolve_behind_part c.args.p c.list-regions.result.now c.list-regions.ensures.regions c.in-Some.i (sym c.part_at.ensures ∙ c.in-Some.is) c.if-i-eq0.false (sym c.is_of_part.ensures ∙ c.if-not-is_of_part.false))
