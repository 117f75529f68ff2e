use Rattle.std.proofs.Common.{◌≡◌, ◌<◌, ◌∙◌, ap, sym, subst, refl, arith, length}
use Rattle.journal.specs.Lines.{text, lines, recovered, HasFence, IsWhole}
use Rattle.journal.proofs.FadeLemmas.{faded_fence}
use Rattle.journal.proofs.OpenLemmas.{blank_same, blanked_text, blanked_open}
use Rattle.journal.proofs.StepLemmas.{read_blanked, read_synced}
use Rattle.journal.proofs.TextLemmas.{length-text}
use Rattle.journal.proofs.tape.Tape.recover.Goals as goal

pub blank-requires : goal.blank-requires
blank-requires g c = record {
  fits = omega (arith, c.requires.ends.order, c.requires.ends.at_text, length-text (g.D.Device.seen c.args.self.now.device));
}

pub returns-in_err-blank-clause-any_moment : goal.returns-in_err-blank-clause-any_moment
returns-in_err-blank-clause-any_moment g c =
    let file = g.D.Device.seen c.args.self.now.device in
    read_blanked g.D.Device.seen g.D.Device.may_leave g.D.Device.moment g.D.Device.left_since g.met.D.Device.only_now
    c.args.self.now.device c.args.ends c.requires.disk (λ f. recovered f ≡ recovered file) refl (blank_same file c.args.ends c.requires.ends)
    c.blank.new.self c.blank.ensures.time c.blank.ensures.crash

pub returns-in_err-blank-clause-fence : goal.returns-in_err-blank-clause-fence
returns-in_err-blank-clause-fence g c =
    λ fence.
    let file = g.D.Device.seen c.args.self.now.device in
    read_blanked g.D.Device.seen g.D.Device.may_leave g.D.Device.moment g.D.Device.left_since g.met.D.Device.only_now
    c.args.self.now.device c.args.ends c.requires.disk HasFence fence (λ f fades. faded_fence c.args.ends.whole file f fades fence)
    c.blank.new.self c.blank.ensures.time c.blank.ensures.crash

pub returns-in_err-sync-clause-any_moment : goal.returns-in_err-sync-clause-any_moment
returns-in_err-sync-clause-any_moment g c =
    let file = g.D.Device.seen c.args.self.now.device in
    read_synced g.D.Device.seen g.D.Device.may_leave g.D.Device.moment g.D.Device.left_since g.met.D.Device.only_now
    c.args.self.now.device c.args.ends c.requires.disk (λ f. recovered f ≡ recovered file) refl (blank_same file c.args.ends c.requires.ends)
    c.blank.new.self c.blank.ensures.time c.blank.ensures.crash c.sync.new.self c.sync.ensures.time c.sync.ensures.crash

pub returns-in_err-sync-clause-fence : goal.returns-in_err-sync-clause-fence
returns-in_err-sync-clause-fence g c =
    λ fence.
    let file = g.D.Device.seen c.args.self.now.device in
    read_synced g.D.Device.seen g.D.Device.may_leave g.D.Device.moment g.D.Device.left_since g.met.D.Device.only_now
    c.args.self.now.device c.args.ends c.requires.disk HasFence fence (λ f fades. faded_fence c.args.ends.whole file f fades fence)
    c.blank.new.self c.blank.ensures.time c.blank.ensures.crash c.sync.new.self c.sync.ensures.time c.sync.ensures.crash

pub returns-clause-lines : goal.returns-clause-lines
returns-clause-lines g c =
    ap recovered c.sync.ensures.seen
    ∙ ap lines (blanked_text (g.D.Device.seen c.args.self.now.device) c.args.ends c.requires.ends (g.D.Device.seen c.blank.new.self) c.in_ok-blank.ensures.blanked)
    ∙ c.requires.ends.same

pub returns-clause-whole : goal.returns-clause-whole
returns-clause-whole g c =
    let is = blanked_text (g.D.Device.seen c.args.self.now.device) c.args.ends c.requires.ends (g.D.Device.seen c.blank.new.self) c.in_ok-blank.ensures.blanked in
    subst IsWhole (sym (ap text c.sync.ensures.seen ∙ is)) c.requires.ends.is_whole

pub returns-clause-is_open : goal.returns-clause-is_open
returns-clause-is_open g c =
    let file = g.D.Device.seen c.args.self.now.device in
    let ends = c.requires.ends in
    let fence : c.args.ends.whole < c.args.ends.len = omega (arith, ends.order, ends.at_text, ends.at_end, length-text file, c.if-ends.false) in
    blanked_open file c.args.ends ends g.D.Device.seen g.D.Device.may_leave c.blank.new.self c.sync.new.self fence
    c.in_ok-blank.ensures.blanked c.sync.ensures.seen c.in_ok-sync.ensures.durable

pub returns-clause-fenced : goal.returns-clause-fenced
returns-clause-fenced g c =
    let file = g.D.Device.seen c.args.self.now.device in
    let ends = c.requires.ends in
    let fence : length (text file) < length file = omega (arith, ends.order, ends.at_text, ends.at_end, length-text file, c.if-ends.false) in
    fence

pub returns-clause-any_moment : goal.returns-clause-any_moment
returns-clause-any_moment g c =
    let file = g.D.Device.seen c.args.self.now.device in
    read_synced g.D.Device.seen g.D.Device.may_leave g.D.Device.moment g.D.Device.left_since g.met.D.Device.only_now
    c.args.self.now.device c.args.ends c.requires.disk (λ f. recovered f ≡ recovered file) refl (blank_same file c.args.ends c.requires.ends)
    c.blank.new.self c.blank.ensures.time c.blank.ensures.crash c.sync.new.self c.sync.ensures.time c.sync.ensures.crash

pub returns-clause-fence : goal.returns-clause-fence
returns-clause-fence g c =
    λ fence.
    let file = g.D.Device.seen c.args.self.now.device in
    read_synced g.D.Device.seen g.D.Device.may_leave g.D.Device.moment g.D.Device.left_since g.met.D.Device.only_now
    c.args.self.now.device c.args.ends c.requires.disk HasFence fence (λ f fades. faded_fence c.args.ends.whole file f fades fence)
    c.blank.new.self c.blank.ensures.time c.blank.ensures.crash c.sync.new.self c.sync.ensures.time c.sync.ensures.crash
