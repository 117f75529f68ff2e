use Rattle.std.proofs.Common.{List, ℕ, ◌++◌, ◌∙◌, ap}
use Rattle.journal.proofs.OpenLemmas.{written_open, written_text}
use Rattle.journal.proofs.StepLemmas.{while_made, while_written}
use Rattle.journal.proofs.tape.Tape.append.Goals as goal

pub returns-in_err-make_room-clause-any_moment : goal.returns-in_err-make_room-clause-any_moment
returns-in_err-make_room-clause-any_moment g c =
    while_made g.D.Device.seen g.D.Device.may_leave g.D.Device.moment g.D.Device.left_since g.met.D.Device.only_now
    c.args.self.now c.requires.is_open c.args.bytes.now c.make_room.new.self c.make_room.ensures.any_moment

pub returns-in_err-write_at-clause-any_moment : goal.returns-in_err-write_at-clause-any_moment
returns-in_err-write_at-clause-any_moment g c =
    let made = c.in_ok-make_room.ensures in
    while_written g.D.Device.seen g.D.Device.may_leave g.D.Device.moment g.D.Device.left_since g.met.D.Device.only_now
    c.args.self.now c.requires.is_open c.args.bytes.now c.make_room.new.self c.make_room.ensures.any_moment
    c.write_at.new.self made.is_open c.requires.no_zero made.room made.same made.kept c.write_at.ensures.crash c.write_at.ensures.time

pub returns-clause-is_open : goal.returns-clause-is_open
returns-clause-is_open g c =
    let made = c.in_ok-make_room.ensures in
    written_open g.D.Device.seen g.D.Device.may_leave c.make_room.new.self c.write_at.new.self c.args.bytes.now made.is_open c.requires.no_zero made.room
    c.write_at.ensures.crash c.in_ok-write_at.ensures.written

pub returns-clause-appended : goal.returns-clause-appended
returns-clause-appended g c =
    let made = c.in_ok-make_room.ensures in
    written_text g.D.Device.seen g.D.Device.may_leave c.make_room.new.self c.write_at.new.self c.args.bytes.now made.is_open c.requires.no_zero made.room
    c.write_at.ensures.crash c.in_ok-write_at.ensures.written
    ∙ ap (λ (l : List ℕ). l ++ c.args.bytes.now) made.same

pub returns-clause-any_moment : goal.returns-clause-any_moment
returns-clause-any_moment g c =
    let made = c.in_ok-make_room.ensures in
    while_written g.D.Device.seen g.D.Device.may_leave g.D.Device.moment g.D.Device.left_since g.met.D.Device.only_now
    c.args.self.now c.requires.is_open c.args.bytes.now c.make_room.new.self c.make_room.ensures.any_moment
    c.write_at.new.self made.is_open c.requires.no_zero made.room made.same made.kept c.write_at.ensures.crash c.write_at.ensures.time
