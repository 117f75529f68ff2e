use Rattle.hlr.proofs.JournaledFacts.{journal_stopped, kept_cut, kept_synced, synced_disk}
use Rattle.hlr.proofs.journaled.sync.Goals as goal

pub returns-in-Ok-clause-synced : goal.returns-in-Ok-clause-synced
returns-in-Ok-clause-synced g c = λ sent stalled rows start first old was.
    kept_synced g.D.Device.seen g.D.Device.may_leave g.D.Device.moment g.D.Device.left_since rows start first c.args.journaled.now c.sync_or_compact.new.self old sent was
    (c.sync_or_compact.ensures.any_moment was.stored _ _ was.under_way) c.sync_or_compact.ensures.register (c.in-Ok.ensures.settled was.stored _ _ was.under_way)

pub returns-in-Err-clause-synced : goal.returns-in-Err-clause-synced
returns-in-Err-clause-synced g c = λ sent stalled rows start first old was.
    kept_cut g.D.Device.seen g.D.Device.may_leave g.D.Device.moment g.D.Device.left_since rows start first c.args.journaled.now c.sync_or_compact.new.self old sent was
    (c.sync_or_compact.ensures.any_moment was.stored _ _ was.under_way) g.met.D.Device.counts_now _ (journal_stopped stalled _ _ c.in-Err.ensures.broken)

pub returns-in-Ok-clause-kept : goal.returns-in-Ok-clause-kept
returns-in-Ok-clause-kept g c = synced_disk g.D.Device.seen g.D.Device.may_leave g.D.Device.moment g.D.Device.left_since c.args.journaled.now c.sync_or_compact.new.self c.sync_or_compact.result c.in-Ok.is c.requires.ready c.sync_or_compact.ensures.stays c.in-Ok.ensures.settled
