use Rattle.std.proofs.Common.{ap, ◌∙◌}
use Rattle.part_table.specs.Regions.{pieces_of}
use Rattle.hlr_owners.specs.Owners.{store_in}
use Rattle.hlr_owners.specs.Store.{Store}
use Rattle.hlr_kept.proofs.JournalLemmas.{settled_disk}
use Rattle.hlr_kept.proofs.UnderWayLemmas.{settled, settled_ready}
use Rattle.hlr_kept.proofs.opening.open.Goals as goal

pub returns-clause-settled : goal.returns-clause-settled
returns-clause-settled g c =
    let seen = g.U.File.Device.seen in
    let may_leave = g.U.File.Device.may_leave in
    let one = c.in_ok-register in
    settled seen may_leave _ one.ensures.settled.0 (settled_disk seen may_leave (store_in one.register) one.journal one.ensures.settled one.ensures.stands) one.ensures.settled.1

pub returns-clause-ready : goal.returns-clause-ready
returns-clause-ready g c = settled_ready g.U.File.Device.seen g.U.File.Device.may_leave _ c.in_ok-register.ensures.home (returns-clause-settled g c)

pub returns-clause-pieces : goal.returns-clause-pieces
returns-clause-pieces g c = ap (λ (s : Store). pieces_of s.regions) c.in_ok-register.ensures.stays ∙ c.requires.pieces
