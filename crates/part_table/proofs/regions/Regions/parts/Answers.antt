use Rattle.part_table.proofs.Common.{◌≡◌, ◌∙◌, arith, length, parts_of}
use Rattle.part_table.proofs.NumberLemmas.{count_parts}
use Rattle.part_table.proofs.regions.Regions.parts.Goals as goal

counted : (c : goal.After-count_parts) → c.count_parts.result ≡ length (parts_of c.list.result.now)
counted c = c.count_parts.ensures ∙ count_parts c.list.result.now

pub overflow_cast-result : goal.overflow_cast-result
overflow_cast-result c = let is = counted c in let few = c.list.ensures.regions.few_parts in omega arith

pub returns-clause-value : goal.returns-clause-value
returns-clause-value c = rw (← c.list.ensures.value) (counted c)

pub returns-clause-some : goal.returns-clause-some
returns-clause-some c = let is = counted c in let some = c.list.ensures.regions.some_part in omega arith

pub returns-clause-few : goal.returns-clause-few
returns-clause-few c = let is = counted c in let few = c.list.ensures.regions.few_parts in omega arith
