use Rattle.journal.specs.Lines.{lines}
use Rattle.hlr_owners.specs.Owners.{store_in}
use Rattle.hlr_kept.proofs.RunLemmas.{stands}
use Rattle.hlr_kept.proofs.laws.crashes_leave_runs.Goals as goal

pub returns : goal.returns
returns c = λ stored orders register answers group written file was begun rows between.
    stands orders answers stored (store_in register) written (lines group) file was.run was.fit begun rows was.lines.lines between
