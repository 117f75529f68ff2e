use Rattle.std.proofs.Common.{ap}
use Rattle.journal.specs.Lines.{HasFence}
use Rattle.journal.proofs.MomentLemmas.{weaker}
use Rattle.hlr_owners.specs.Owners.{book_in}
use Rattle.hlr_kept.specs.Keeping.{StandsAfterFirst}
use Rattle.hlr_kept.specs.Runs.{StandsAfterSome}
use Rattle.hlr_kept.proofs.UnderWayLemmas.{first_some, ready_stands, synced_ready, synced_settled, synced_stays, synced_written, under_way_stands}
use Rattle.hlr_kept.proofs.journaled.Journaled.sync.Goals as goal

pub sync-requires : goal.sync-requires
sync-requires g c = record { stands = (book_in c.args.self.now.register.owners, ready_stands g.D.Device.seen g.D.Device.may_leave c.args.self.now c.requires.ready) }

pub returns-clause-ready : goal.returns-clause-ready
returns-clause-ready g c =
    synced_ready g.D.Device.seen g.D.Device.may_leave c.args.self.now c.sync.new.self c.sync.ensures.stands c.sync.result c.requires.ready c.sync.ensures.settled c.sync.ensures.broken

pub returns-clause-settled : goal.returns-clause-settled
returns-clause-settled g c =
    synced_settled g.D.Device.seen g.D.Device.may_leave c.args.self.now c.sync.new.self c.sync.ensures.stands c.sync.result c.requires.ready c.sync.ensures.settled

pub returns-clause-written : goal.returns-clause-written
returns-clause-written g c = synced_written g.D.Device.seen g.D.Device.may_leave c.sync.result c.sync.new.self c.sync.ensures.settled

pub returns-clause-any_moment : goal.returns-clause-any_moment
returns-clause-any_moment g c = λ stored orders answers was.
    let seen = g.D.Device.seen in
    let may_leave = g.D.Device.may_leave in
    let now = c.args.self.now in
    weaker g.D.Device.moment g.D.Device.left_since now.journal.tape.device c.sync.new.self.tape.device
    (λ bytes. HasFence bytes × StandsAfterFirst seen now.journal bytes) (λ bytes. HasFence bytes × StandsAfterSome orders answers stored bytes)
    (c.sync.ensures.any_moment (book_in now.register.owners) (under_way_stands seen may_leave stored orders answers now was) was.works)
    (λ bytes left. (left.0, first_some seen may_leave stored orders answers now bytes was left.1))

pub returns-clause-idle : goal.returns-clause-idle
returns-clause-idle g c = λ none works.
    let same = c.sync.ensures.idle none works in (same.0, ap (λ (j : _). record (c.args.self.now) { journal = j }) same.1)

pub returns-clause-stays : goal.returns-clause-stays
returns-clause-stays g c =
    synced_stays g.D.Device.seen g.D.Device.may_leave c.args.self.now.journal.fault c.sync.result c.args.self.now c.sync.new.self c.sync.ensures.stays
