use Rattle.tatp_actions.proofs.Common.{arith, refl, true}
use Rattle.tatp_actions.proofs.HourLemmas.{no_span_notes, none_covers}
use Rattle.tatp_actions.proofs.change.Change.of_notes.Goals as goal

pub returns : goal.returns
returns c = rw (no_span_notes true (record { from_0 = 0; from_8 = 0; from_16 = 0 }) (λ hour. none_covers _ hour (omega arith) (λ late. omega arith) (λ late. omega arith))) refl
