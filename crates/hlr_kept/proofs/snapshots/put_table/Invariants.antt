use Rattle.std.proofs.Common.{◌≡◌, ◌<◌, length}
use Rattle.tatp_actions.specs.Listed.{rows_listed}
use Rattle.hlr_owners.specs.Owners.{book_in}
use Rattle.hlr_kept.specs.Draft.{draft_lines}
use Rattle.hlr_kept.proofs.ReadingLemmas.{IsReading}
use Rattle.hlr_kept.proofs.snapshots.put_table.Given as goal

abbrev pub invariant-loop-page : goal.invariant-loop-page
invariant-loop-page g l =
    IsReading g.V.TableRow.fields (g.V.SnapshotRow.event (book_in l.register.owners).subscribers) g.D.Device.seen g.D.Device.may_leave
    (g.V.TableRow.table (book_in l.register.owners)) (draft_lines g.D.Device.seen l.initial.draft) l.from l.draft
    × (0 < length l.page.items) × (g.D.Device.owner l.draft.tape.device ≡ g.D.Device.owner l.initial.draft.tape.device)

abbrev pub decreases-loop-page : goal.decreases-loop-page
decreases-loop-page g l = length (rows_listed g.V.TableRow.fields l.from (g.V.TableRow.table (book_in l.register.owners)))
