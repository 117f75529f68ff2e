use Rattle.std.proofs.Common.{sym, subst}
use Rattle.hlr_owners.specs.Owners.{store_in}
use Rattle.hlr_kept.specs.Runs.{IsOnDisk}
use Rattle.hlr_kept.proofs.JournalLemmas.{disk_stands}
use Rattle.hlr_kept.proofs.snapshots.snapshot_journal.Goals as goal

pub returns-clause-stands : goal.returns-clause-stands
returns-clause-stands g c =
    let seen = g.U.File.Device.seen in
    let may_leave = g.U.File.Device.may_leave in
    let store = store_in c.args.register.now in
    disk_stands seen may_leave store c.new.result
    (subst (λ (tape : _). IsOnDisk seen may_leave store tape) (sym c.new.ensures.tape) c.in_ok-tape.ensures.stored)
    c.new.ensures.settled.1
