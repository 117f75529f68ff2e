use Rattle.journal.proofs.OpenLemmas.{all_only, moved_open}
use Rattle.journal.proofs.StepLemmas.{while_compacted}
use Rattle.journal.proofs.compacting.compact.Goals as goal

pub replace-requires : goal.replace-requires
replace-requires g c = record {
  synced = all_only g.D.Device.seen g.D.Device.may_leave c.args.next c.requires.next c.requires.next_acknowledged;
}

pub returns-in_err-replace-clause-any_moment : goal.returns-in_err-replace-clause-any_moment
returns-in_err-replace-clause-any_moment g c =
    while_compacted g.D.Device.seen g.D.Device.may_leave g.D.Device.moment g.D.Device.left_since g.met.D.Device.only_now
    c.args.tape.now c.requires.is_open c.requires.acknowledged c.args.next c.requires.next c.replace.new.self c.replace.ensures.time c.replace.ensures.crash

pub returns-clause-is_open : goal.returns-clause-is_open
returns-clause-is_open g c =
    moved_open g.D.Device.seen g.D.Device.may_leave c.args.next c.replace.new.self c.requires.next
    c.in_ok-replace.ensures.replaced c.in_ok-replace.ensures.durable

pub returns-clause-any_moment : goal.returns-clause-any_moment
returns-clause-any_moment g c =
    while_compacted g.D.Device.seen g.D.Device.may_leave g.D.Device.moment g.D.Device.left_since g.met.D.Device.only_now
    c.args.tape.now c.requires.is_open c.requires.acknowledged c.args.next c.requires.next c.replace.new.self c.replace.ensures.time c.replace.ensures.crash
