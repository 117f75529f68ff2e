use Rattle.std.proofs.Common.{sym, subst}
use Rattle.journal_file.specs.Relayed.{relayed_leaves, relayed_seen}
use Rattle.hlr_owners.specs.Owners.{store_in}
use Rattle.hlr_kept.specs.Runs.{IsOnDisk}
use Rattle.hlr_kept.proofs.JournalLemmas.{disk_stands}
use Rattle.hlr_kept.proofs.snapshots.snapshot_relayed.Goals as goal

pub returns-clause-stands : goal.returns-clause-stands
returns-clause-stands c =
    let store = store_in c.args.register.now in
    disk_stands relayed_seen relayed_leaves store c.new.result
    (subst (λ (tape : _). IsOnDisk relayed_seen relayed_leaves store tape) (sym c.new.ensures.tape) c.in_ok-tape.ensures.stored)
    c.new.ensures.settled.1
