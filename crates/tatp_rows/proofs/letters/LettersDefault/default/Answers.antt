use Rattle.tatp_rows.proofs.Common.{arith}
use Rattle.tatp_rows.proofs.RowLemmas.{least_between}
use Rattle.tatp_rows.proofs.letters.LettersDefault.default.Goals as goal

pub invariant_of-result : goal.invariant_of-result
invariant_of-result g c = least_between 65 90 g.row.N (omega arith)
