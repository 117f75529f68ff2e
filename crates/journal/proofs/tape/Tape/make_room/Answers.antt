use Rattle.std.proofs.Common.{◌+◌, ◌∙◌, ap}
use Rattle.journal.specs.Lines.{text}
use Rattle.journal.proofs.OpenLemmas.{grown_open, grown_text}
use Rattle.journal.proofs.StepLemmas.{unchanged, while_grown, while_grown_synced}
use Rattle.journal.proofs.tape.Tape.make_room.Goals as goal

pub returns-then-more-self-clause-any_moment : goal.returns-then-more-self-clause-any_moment
returns-then-more-self-clause-any_moment g c =
    unchanged g.D.Device.seen g.D.Device.may_leave g.D.Device.moment g.D.Device.left_since g.met.D.Device.only_now
    c.args.self.now c.requires.is_open

pub returns-then-self-gt-MAX_LEN-clause-any_moment : goal.returns-then-self-gt-MAX_LEN-clause-any_moment
returns-then-self-gt-MAX_LEN-clause-any_moment g c =
    unchanged g.D.Device.seen g.D.Device.may_leave g.D.Device.moment g.D.Device.left_since g.met.D.Device.only_now
    c.args.self.now c.requires.is_open

pub returns-in_err-grow-clause-any_moment : goal.returns-in_err-grow-clause-any_moment
returns-in_err-grow-clause-any_moment g c =
    while_grown g.D.Device.seen g.D.Device.may_leave g.D.Device.moment g.D.Device.left_since g.met.D.Device.only_now
    c.args.self.now c.requires.is_open c.grow.new.self c.grow.ensures.time c.grow.ensures.crash

pub returns-in_err-sync-clause-any_moment : goal.returns-in_err-sync-clause-any_moment
returns-in_err-sync-clause-any_moment g c =
    while_grown_synced g.D.Device.seen g.D.Device.may_leave g.D.Device.moment g.D.Device.left_since g.met.D.Device.only_now
    c.args.self.now c.requires.is_open c.grow.new.self c.grow.ensures.time c.grow.ensures.crash c.sync.new.self c.sync.ensures.time c.sync.ensures.crash

pub returns-clause-is_open : goal.returns-clause-is_open
returns-clause-is_open g c =
    grown_open g.D.Device.seen g.D.Device.may_leave c.args.self.now c.grow.new.self c.sync.new.self (c.args.more + 1048576)
    c.requires.is_open c.in_ok-grow.ensures.grown c.sync.ensures.seen c.in_ok-sync.ensures.durable

pub returns-clause-same : goal.returns-clause-same
returns-clause-same g c =
    ap text c.sync.ensures.seen
    ∙ grown_text g.D.Device.seen g.D.Device.may_leave c.args.self.now c.grow.new.self (c.args.more + 1048576) c.requires.is_open c.in_ok-grow.ensures.grown

pub returns-clause-any_moment : goal.returns-clause-any_moment
returns-clause-any_moment g c =
    while_grown_synced g.D.Device.seen g.D.Device.may_leave g.D.Device.moment g.D.Device.left_since g.met.D.Device.only_now
    c.args.self.now c.requires.is_open c.grow.new.self c.grow.ensures.time c.grow.ensures.crash c.sync.new.self c.sync.ensures.time c.sync.ensures.crash
