use Rattle.journal.proofs.OpenLemmas.{synced_open}
use Rattle.journal.proofs.StepLemmas.{while_synced}
use Rattle.journal.proofs.tape.Tape.sync.Goals as goal

pub returns-in_err-sync-clause-any_moment : goal.returns-in_err-sync-clause-any_moment
returns-in_err-sync-clause-any_moment g c =
    while_synced g.D.Device.seen g.D.Device.may_leave g.D.Device.moment g.D.Device.left_since g.met.D.Device.only_now
    c.args.self.now c.requires.is_open c.sync.new.self c.sync.ensures.time c.sync.ensures.crash

pub returns-clause-is_open : goal.returns-clause-is_open
returns-clause-is_open g c =
    synced_open g.D.Device.seen g.D.Device.may_leave c.args.self.now c.sync.new.self c.requires.is_open c.sync.ensures.seen c.in_ok-sync.ensures.durable

pub returns-clause-any_moment : goal.returns-clause-any_moment
returns-clause-any_moment g c =
    while_synced g.D.Device.seen g.D.Device.may_leave g.D.Device.moment g.D.Device.left_since g.met.D.Device.only_now
    c.args.self.now c.requires.is_open c.sync.new.self c.sync.ensures.time c.sync.ensures.crash
