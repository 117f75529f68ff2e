use Rattle.std.proofs.Common.{sym}
use Rattle.tatp_rows.proofs.SpanLemmas.{each-first}
use Rattle.tatp_rows.specs.Number.{IsNumber}
use Rattle.number_index.proofs.index.NumberIndex.first_from.Goals as goal

pub as_number-requires : goal.as_number-requires
as_number-requires c = each-first _ (λ pair. IsNumber pair.0) _ _ c.self.invariant.1 (sym c.in_ok-value.ensures)
