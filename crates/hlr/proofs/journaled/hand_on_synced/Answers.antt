use Rattle.hlr.proofs.JournaledFacts.{stalled_so, synced_handed}
use Rattle.hlr.proofs.journaled.hand_on_synced.Goals as goal

pub returns-in_err-sync-clause-text : goal.returns-in_err-sync-clause-text
returns-in_err-sync-clause-text g c = λ rows start first old was.
    stalled_so _ c.from_residual.result _ _ c.from_residual.ensures.1 (c.in_err-sync.ensures.synced _ _ rows start first old was)

pub returns-clause-text : goal.returns-clause-text
returns-clause-text g c = λ rows start first old was.
    synced_handed g.D.Device.seen g.D.Device.may_leave g.D.Device.moment g.D.Device.left_since rows start first _ old _ _ _ c.hand_on.result
    (c.in_ok-sync.ensures.synced _ (g.S.Sink.has_stalled c.args.sink.now) rows start first old was) c.hand_on.ensures.text
