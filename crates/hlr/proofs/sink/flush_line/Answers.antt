use Rattle.hlr.proofs.Common.{rules}
use Rattle.hlr.proofs.SinkFacts.{adds_failed, adds_flushed, adds_unflushed}
use Rattle.hlr.proofs.sink.flush_line.Goals as goal

pub returns-in_err-hand_on-clause-text : goal.returns-in_err-hand_on-clause-text
returns-in_err-hand_on-clause-text g c =
    let text = c.in_err-hand_on.ensures.text in adds_failed _ _ _ _ _ c.from_residual.result c.from_residual.ensures.1 text.0 text.1

pub returns-in-Ok-clause-text : goal.returns-in-Ok-clause-text
returns-in-Ok-clause-text g c = adds_flushed _ _ _ _ _ c.in_ok-hand_on.ensures.text c.in-Ok.ensures.bytes

pub returns-in-Err-clause-text : goal.returns-in-Err-clause-text
returns-in-Err-clause-text g c = (adds_unflushed _ _ _ _ _ c.in_ok-hand_on.ensures.text c.in-Err.ensures.bytes, search rules)
