use Rattle.tatp_rows.proofs.OrderedLemmas.{each-without_row, ordered-without_row}
use Rattle.tatp_rows.specs.Number.{IsNumber}
use Rattle.mr_node.specs.Rows.{key_of_pair}
use Rattle.number_index.proofs.index.NumberIndex.remove.Goals as goal

pub invariant_of-self : goal.invariant_of-self
invariant_of-self c =
    rw c.remove.ensures.rows (ordered-without_row key_of_pair _ _ c.self.invariant.0, each-without_row key_of_pair (λ pair. IsNumber pair.0) _ _ c.self.invariant.1)
