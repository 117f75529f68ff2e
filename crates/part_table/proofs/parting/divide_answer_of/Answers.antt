use Rattle.part_table.proofs.Common.{◌∙◌, sym}
use Rattle.part_table.proofs.DivideLemmas.{divide_done, divide_refused}
use Rattle.part_table.proofs.parting.divide_answer_of.Goals as goal

pub returns-then-count_parts-from : goal.returns-then-count_parts-from
returns-then-count_parts-from c =
    let above = rw c.from.ensures at c.if-at-from.false in
    let below = rw c.from-else-at-from.ensures at c.if-from-at.false in
    sym (divide_refused c.args.part c.args.p c.args.at c.args.regions.now above below c.count_parts.result c.count_parts.ensures (c.if-count_parts-from.true ∙ c.from-2.ensures))

pub returns : goal.returns
returns c =
    let above = rw c.from.ensures at c.if-at-from.false in
    let below = rw c.from-else-at-from.ensures at c.if-from-at.false in
    sym (divide_done c.args.part c.args.p c.args.at c.args.regions.now above below c.count_parts.result c.count_parts.ensures (rw c.from-2.ensures at c.if-count_parts-from.false))
