use Rattle.tatp_rows.proofs.PackLemmas.{IsPackedFrom}
use Rattle.tatp_rows.proofs.subscriber.pack.Given as goal

abbrev pub invariant-loop-i : goal.invariant-loop-i
invariant-loop-i l = IsPackedFrom l.base l.digits l.i l.value
