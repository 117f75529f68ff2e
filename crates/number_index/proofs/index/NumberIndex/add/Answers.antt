use Rattle.tatp_rows.proofs.OrderedLemmas.{each-with_row, ordered-with_row}
use Rattle.tatp_rows.specs.Number.{IsNumber}
use Rattle.mr_node.specs.Rows.{key_of_pair}
use Rattle.number_index.proofs.index.NumberIndex.add.Goals as goal

pub invariant_of-self : goal.invariant_of-self
invariant_of-self c =
    rw c.in_default.ensures.answer.1 (
      ordered-with_row key_of_pair _ _ c.in_default.ensures.answer.0 c.self.invariant.0,
      each-with_row key_of_pair (λ pair. IsNumber pair.0) _ _ c.value.ensures.in_range c.self.invariant.1,
    )
