use Rattle.journal_file.specs.Relayed.{relayed_leaves, relayed_seen}
use Rattle.hlr_owners.specs.Owners.{store_in}
use Rattle.hlr_kept.proofs.JournalLemmas.{settled_disk}
use Rattle.hlr_kept.proofs.UnderWayLemmas.{settled, settled_ready}
use Rattle.hlr_kept.proofs.tests.relayed.Goals as goal

pub returns : goal.returns
returns c =
    let one = c.in_ok-register in
    let disk = settled_disk relayed_seen relayed_leaves (store_in one.register) one.journal one.ensures.settled one.ensures.stands in
    record {
      ready = settled_ready relayed_seen relayed_leaves _ one.ensures.home
          (settled relayed_seen relayed_leaves _ one.ensures.settled.0 disk one.ensures.settled.1);
    }
