use Rattle.hlr.proofs.SinkFacts.{adds_failed, handed_front, handed_on}
use Rattle.hlr.proofs.sink.hand_on.Goals as goal

pub returns-in_err-put_all-clause-text : goal.returns-in_err-put_all-clause-text
returns-in_err-put_all-clause-text g c =
    let put = c.in_err-put_all.ensures.put in
    adds_failed _ _ _ _ _ c.from_residual.result c.from_residual.ensures.1 (handed_front _ _ c.args.line.now.items _ _ c.as_slice.ensures put.0) put.1

pub returns-clause-text : goal.returns-clause-text
returns-clause-text g c = handed_on _ _ _ _ _ c.as_slice.ensures c.clear.ensures c.in_ok-put_all.ensures.put
