use Rattle.std.proofs.Common.{◌∙◌, ap, sym, subst}
use Rattle.journal.specs.Lines.{text, lines, IsWhole}
use Rattle.journal.proofs.LineLemmas.{whole_lines, whole-append}
use Rattle.journal.proofs.StepLemmas.{while_appended, while_committed}
use Rattle.journal.proofs.tape.Tape.commit.Goals as goal

pub returns-in_err-append-clause-any_moment : goal.returns-in_err-append-clause-any_moment
returns-in_err-append-clause-any_moment g c =
    while_appended g.D.Device.seen g.D.Device.may_leave g.D.Device.moment g.D.Device.left_since g.met.D.Device.only_now
    c.args.self.now c.requires.is_open c.args.group.now c.requires.acknowledged c.requires.whole c.append.new.self c.append.ensures.any_moment

pub returns-in_err-sync-clause-any_moment : goal.returns-in_err-sync-clause-any_moment
returns-in_err-sync-clause-any_moment g c =
    while_committed g.D.Device.seen g.D.Device.may_leave g.D.Device.moment g.D.Device.left_since g.met.D.Device.only_now
    c.args.self.now c.requires.is_open c.args.group.now c.requires.acknowledged c.requires.whole c.append.new.self c.append.ensures.any_moment
    c.sync.new.self.device c.in_ok-append.ensures.kept c.in_ok-append.ensures.appended c.sync.ensures.any_moment

pub returns-clause-whole : goal.returns-clause-whole
returns-clause-whole g c =
    subst IsWhole (sym (c.in_ok-sync.ensures.same ∙ c.in_ok-append.ensures.appended))
    (whole-append (text (g.D.Device.seen c.args.self.now.device)) c.args.group.now c.requires.whole c.requires.group)

pub returns-clause-lines : goal.returns-clause-lines
returns-clause-lines g c =
    ap lines (c.in_ok-sync.ensures.same ∙ c.in_ok-append.ensures.appended)
    ∙ whole_lines (text (g.D.Device.seen c.args.self.now.device)) c.args.group.now c.requires.whole

pub returns-clause-any_moment : goal.returns-clause-any_moment
returns-clause-any_moment g c =
    while_committed g.D.Device.seen g.D.Device.may_leave g.D.Device.moment g.D.Device.left_since g.met.D.Device.only_now
    c.args.self.now c.requires.is_open c.args.group.now c.requires.acknowledged c.requires.whole c.append.new.self c.append.ensures.any_moment
    c.sync.new.self.device c.in_ok-append.ensures.kept c.in_ok-append.ensures.appended c.sync.ensures.any_moment
