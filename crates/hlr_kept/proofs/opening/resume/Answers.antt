use Rattle.std.proofs.Common.{◌≡◌, ℕ, List, refl, sym, subst}
use Rattle.journal_file.specs.Device.{LeavesOnly}
use Rattle.journal.specs.Lines.{HasFence}
use Rattle.hlr_kept.specs.Rows.{HasRowsOf, IsGivenUp, book_of}
use Rattle.hlr_kept.specs.Runs.{IsOnDisk}
use Rattle.hlr_kept.proofs.JournalLemmas.{disk_stands}
use Rattle.hlr_kept.proofs.RestoredLemmas.{fenced_moments, read_moments, read_rows}
use Rattle.hlr_kept.proofs.opening.resume.Goals as goal

pub returns-in-Ok-clause-stands : goal.returns-in-Ok-clause-stands
returns-in-Ok-clause-stands g c = λ stored rows.
    let seen = g.D.Device.seen in
    let may_leave = g.D.Device.may_leave in
    let begun = read_rows seen may_leave c.new-tape.result.device c.args.device (seen c.args.device) c.new-tape.ensures.device refl stored.book rows in
    disk_stands seen may_leave stored c.new.result
    (subst (λ (tape : _). IsOnDisk seen may_leave stored tape) (sym c.new.ensures.tape) (c.in-Ok.ensures.stored stored begun))
    c.new.ensures.settled.1

pub returns-in-Ok-clause-any_moment : goal.returns-in-Ok-clause-any_moment
returns-in-Ok-clause-any_moment g c =
    let seen = g.D.Device.seen in
    let leaves = fenced_moments seen g.D.Device.moment g.D.Device.left_since c.new-tape.result.device c.begin.new.tape.device c.in-Ok.ensures.fenced c.begin.ensures.any_moment in
    let device = read_moments seen g.D.Device.moment g.D.Device.left_since c.args.device c.args.device c.new-tape.result.device c.begin.new.tape.device (seen c.args.device)
    c.new-tape.ensures.device refl refl leaves in
    subst (λ (tape : _). LeavesOnly g.D.Device.moment g.D.Device.left_since c.args.device tape.device (λ (file : List ℕ). HasFence file × (book_of file ≡ book_of (seen c.args.device))))
    (sym c.new.ensures.tape) device

pub returns-in-Err-clause-handed_back : goal.returns-in-Err-clause-handed_back
returns-in-Err-clause-handed_back g c =
    subst (λ (d : _). LeavesOnly g.D.Device.moment g.D.Device.left_since d c.begin.new.tape.device (HasRowsOf (g.D.Device.seen d)))
    c.new-tape.ensures.device c.begin.ensures.any_moment

pub returns-in-Err-clause-refused : goal.returns-in-Err-clause-refused
returns-in-Err-clause-refused g c =
    subst (λ (d : _). IsGivenUp (g.D.Device.faults d) (g.D.Device.faults c.begin.new.tape.device) (g.D.Device.seen d) c.in-Err.why)
    c.new-tape.ensures.device c.in-Err.ensures.refused
