use Rattle.hlr.proofs.JournaledFacts.{stalled_so, synced_handed}
use Rattle.hlr.proofs.journaled.flush_synced.Goals as goal

pub returns-in_err-hand_on_synced-clause-text : goal.returns-in_err-hand_on_synced-clause-text
returns-in_err-hand_on_synced-clause-text g c = λ rows start first old was.
    stalled_so _ c.from_residual.result _ _ c.from_residual.ensures.1 (c.in_err-hand_on_synced.ensures.text rows start first old was)

pub returns-clause-text : goal.returns-clause-text
returns-clause-text g c = λ rows start first old was.
    synced_handed g.D.Device.seen g.D.Device.may_leave g.D.Device.moment g.D.Device.left_since rows start first _ old _ _ _ c.flush_line.result
    (c.in_ok-hand_on_synced.ensures.text rows start first old was) c.flush_line.ensures.text
