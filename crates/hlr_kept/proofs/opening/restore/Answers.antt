use Rattle.std.proofs.lemmas.Result.{err_from_is_err_and}
use Rattle.journal.proofs.RefusedLemmas.{handed_on}
use Rattle.std.proofs.Common.{refl, false}
use Rattle.journal.specs.Lines.{recovered}
use Rattle.hlr_kept.proofs.RestoredLemmas.{read_refused, run_after, run_rows}
use Rattle.hlr_kept.proofs.opening.restore.Goals as goal

pub returns-clause-rows : goal.returns-clause-rows
returns-clause-rows g c =
    run_after (recovered (g.U.Unread.read c.replay.new.unread)) (record { register = c.args.register; is_begun = false }) c.replay.new.machine
    refl c.requires.rows c.in_ok-ends.ensures.runs

pub returns-clause-stays : goal.returns-clause-stays
returns-clause-stays g c =
    run_rows (recovered (g.U.Unread.read c.replay.new.unread)) (record { register = c.args.register; is_begun = false }) c.replay.new.machine c.in_ok-ends.ensures.runs

pub returns-in_err-ends-clause-refused : goal.returns-in_err-ends-clause-refused
returns-in_err-ends-clause-refused g c =
    let passed = err_from_is_err_and c.from_residual.result c.from_residual.ensures.1 in
    handed_on c.from_residual.result _ passed.0 c.in_err-ends.field-0.0 passed.1 passed.2
    (read_refused (g.U.Unread.faults c.args.unread.now) (g.U.Unread.faults c.replay.new.unread) (g.U.Unread.read c.replay.new.unread) (record { register = c.args.register; is_begun = false }) c.in_err-ends.field-0.0 refl c.requires.rows c.in_err-ends.ensures.refused)
