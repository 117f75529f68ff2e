use Rattle.std.proofs.Common.{◌≡◌, ◌∙◌, sym, subst, arith, true, vec_len}
use Rattle.std.specs.Prelude.{◌==◌}
use Rattle.std.proofs.lemmas.Bool.Decides.{nat_tests}
use Rattle.std.proofs.lemmas.List.{nil_from_length}
use Rattle.journal.specs.Lines.{HasNoZero, IsWhole}
use Rattle.hlr_kept.proofs.JournalLemmas.{idle_leaves, sync_leaves, written_stands}
use Rattle.hlr_kept.proofs.keeping.Journal.sync.Goals as goal

pub commit-requires : goal.commit-requires
commit-requires g c =
    let keeps = c.requires.stands.1 c.in_default.is in
    let same = sym c.deref.ensures.value in
    record { is_open = keeps.open_tape; acknowledged = keeps.synced; whole = keeps.whole; no_zero = subst HasNoZero same keeps.no_zero; group = subst IsWhole same keeps.whole_lines }

pub returns-then-is_empty-clause-settled : goal.returns-then-is_empty-clause-settled
returns-then-is_empty-clause-settled g c =
    let group = c.args.self.now.group in
    let test : (vec_len group == 0) ≡ true = sym c.is_empty.ensures ∙ c.if-is_empty.true in
    let none : vec_len group ≡ 0 = grind (arith, nat_tests) in
    (c.in_default.is, nil_from_length group.items (omega (arith, group.ok, none)))

pub returns-then-is_empty-clause-any_moment : goal.returns-then-is_empty-clause-any_moment
returns-then-is_empty-clause-any_moment g c = λ book stands works.
    idle_leaves g.D.Device.seen g.D.Device.may_leave g.D.Device.moment g.D.Device.left_since g.met.D.Device.only_now book c.args.self.now (stands works)

pub returns-in-Err-clause-any_moment : goal.returns-in-Err-clause-any_moment
returns-in-Err-clause-any_moment g c = λ book stands works.
    sync_leaves g.D.Device.seen g.D.Device.may_leave g.D.Device.moment g.D.Device.left_since book c.args.self.now c.deref.result.now c.commit.new.self.device
    (stands works) c.deref.ensures.value c.commit.ensures.any_moment

pub returns-clause-stands : goal.returns-clause-stands
returns-clause-stands g c = λ book stands.
    let done = c.in_default-commit.ensures in
    written_stands g.D.Device.seen g.D.Device.may_leave book c.args.self.now (record (c.args.self.now) { tape = c.commit.new.self; group = c.clear.new.self })
    c.deref.result.now (stands c.in_default.is) c.deref.ensures.value c.clear.ensures.items done.is_open done.acknowledged done.whole done.lines

pub returns-clause-any_moment : goal.returns-clause-any_moment
returns-clause-any_moment g c = λ book stands works.
    sync_leaves g.D.Device.seen g.D.Device.may_leave g.D.Device.moment g.D.Device.left_since book c.args.self.now c.deref.result.now c.commit.new.self.device
    (stands works) c.deref.ensures.value c.commit.ensures.any_moment
