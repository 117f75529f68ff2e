use Rattle.tatp_rows.proofs.PackLemmas.{IsUnpackedTo}
use Rattle.tatp_rows.proofs.subscriber.unpack.Given as goal

abbrev pub invariant-loop-i : goal.invariant-loop-i
invariant-loop-i l = IsUnpackedTo l.base 10 l.fn.value l.i l.digits l.rest
