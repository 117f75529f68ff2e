use Rattle.std.proofs.Common.{◌≡◌, ◌++◌, take}
use Rattle.std.specs.Prelude.{map}
use Rattle.edit_lines.specs.Lines.{line_of}
use Rattle.hlr_owners.specs.Owners.{book_in}
use Rattle.hlr_kept.specs.Draft.{draft_lines}
use Rattle.hlr_kept.proofs.DraftLemmas.{HasLines}
use Rattle.hlr_kept.proofs.snapshots.put_rows.Given as goal

abbrev pub invariant-loop-row : goal.invariant-loop-row
invariant-loop-row g l = record {
  has : HasLines g.D.Device.seen g.D.Device.may_leave
      (draft_lines g.D.Device.seen l.initial.draft ++ map line_of (map (g.V.SnapshotRow.event (book_in l.register.owners).subscribers) (take l.row-index l.rows))) l.draft;
  owner : g.D.Device.owner l.draft.tape.device ≡ g.D.Device.owner l.initial.draft.tape.device;
}
